-- `put_state` meets its contract: the values before v, and those of the walk from number k, are together the state.
use mathlib.Core.Path.{◌∙◌}
use native.Mathlib.Omega.{arith}
use lib.ListN.{length-set}
use Rattle.dearest.specs.InPlaceLaws.{walking_start, walking_next, walking_end}
use Rattle.task_dearest.proofs.state.Course.put_state.Goals as goal

pub loop-v-init : goal.loop-v-init
loop-v-init c = record { wide = c.requires.wide; number = (omega arith, omega arith); walking = λ drawn. walking_start drawn c.args.state.now }

pub turn_at-turn-requires-clause-number : goal.turn_at-turn-requires-clause-number
turn_at-turn-requires-clause-number c = c.loop-v.invariant.number

pub loop-v-preserved : goal.loop-v-preserved
loop-v-preserved c =
    let l = c.loop-v in
    let t = c.turn_at-turn.ensures in
    record {
      wide = length-set l.state l.v _ ∙ l.invariant.wide;
      number = t.le_next;
      walking = λ drawn. walking_next drawn (l.invariant.walking drawn) c.loop-v-test.true l.invariant.wide t.value_value t.next_value;
    }

pub returns : goal.returns
returns c =
    let l = c.loop-v in
    let drawn = c.requires.ready.drawn in
    walking_end drawn (l.invariant.walking drawn) c.loop-v-test.false l.invariant.wide
