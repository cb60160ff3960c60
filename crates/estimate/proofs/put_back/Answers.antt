-- `estimate::put_back` meets its contract: the numbers of all facts before the next place are put back.
use mathlib.Core.Path.{sym, ◌∙◌}
use native.Mathlib.Omega.{arith}
use lib.ListN.{length}
use Rattle.estimate.specs.Ranks.{Room}
use Rattle.estimate.specs.RanksLaws.{rank_at}
use Rattle.estimate.specs.PutBackLaws.{put_more, put_variable, put_all}
use Rattle.estimate.proofs.put_back.Goals as goal
use Rattle.estimate.proofs.put_back.Goals.{In-loop-d}

-- there is room for the next fact
room : (c : goal.In-loop-d) → Room (length c.args.ranks.now) c.loop-v.v c.loop-d.d
room c = c.requires.room c.loop-v.v c.loop-d.d (omega arith)

pub overflow_mul-place : goal.overflow_mul-place
overflow_mul-place c = omega (arith, (room c).variable)

pub overflow_add-place : goal.overflow_add-place
overflow_add-place c = omega (arith, (room c).variable, (room c).value)

pub offset_bounds-ranks-place : goal.offset_bounds-ranks-place
offset_bounds-ranks-place c = omega (arith, (room c).variable)

pub bounds-ranks-place : goal.bounds-ranks-place
bounds-ranks-place c = (room (goal.at.bounds-ranks-place c).In-loop-d).place

pub offset_bounds-last-place : goal.offset_bounds-last-place
offset_bounds-last-place c = omega (arith, (room (goal.at.offset_bounds-last-place c).In-loop-d).variable)

pub bounds-last-place : goal.bounds-last-place
bounds-last-place c = let r = room (goal.at.bounds-last-place c).In-loop-d in omega (arith, r.variable, r.value)

pub loop-d-preserved : goal.loop-d-preserved
loop-d-preserved c = put_more c.requires c.loop-d.invariant (omega arith) _ (c.ranked.ensures ∙ sym (rank_at _ _ _ 0 (room (goal.at.loop-d-preserved c).In-loop-d)))

pub loop-v-preserved : goal.loop-v-preserved
loop-v-preserved c = put_variable c.requires c.loop-d.invariant c.loop-d-test.false

pub returns : goal.returns
returns c = put_all c.requires c.loop-v.invariant c.loop-v-test.false
