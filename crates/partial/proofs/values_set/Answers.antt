-- `partial::values_set` meets its contract: without the lowest standing bit, whose value is set, what is left applied makes what the whole makes.
use Prim.Native.Nat.{◌+◌}
use mathlib.Core.Path.{sym, ap, ◌∙◌}
use lib.Count.{ones}
use lib.ListN.{length-set, set, get_or}
use Rattle.facts.specs.Partial.{apply, standing_at}
use Rattle.facts.specs.BitsLaws.{ones_cleared}
use Rattle.partial.proofs.Loops.{apply_next, apply_cut, apply_over, apply_done}
use native.Mathlib.Omega.{arith}
use Rattle.partial.proofs.values_set.Goals as goal

pub returns-then-state-v-clause-state_after : goal.returns-then-state-v-clause-state_after
returns-then-state-v-clause-state_after c =
    let l = c.loop-v in
    sym (l.invariant.5 ∙ apply_over _ l.state c.in-Some.ensures.steps.1 l.at c.if-state-v.true)

pub returns-then-file-at-clause-state_after : goal.returns-then-file-at-clause-state_after
returns-then-file-at-clause-state_after c =
    let l = c.loop-v in
    sym (l.invariant.5 ∙ apply_cut _ l.v-iterator.rest l.at l.state c.if-file-at.true)

pub loop-v-preserved : goal.loop-v-preserved
loop-v-preserved c =
    let l = c.loop-v in
    let f = c.args.file.now in
    let taken = c.in-Some.ensures.steps in (
      tt,
      tt,
      omega arith,
      omega (arith, l.invariant.3, ones_cleared taken.1, ap ones taken.2),
      simp length-set l.invariant.4,
      l.invariant.5 ∙ apply_next _ l.state taken.1 l.at c.if-state-v.false c.if-file-at.false ∙ ap (λ m. apply (standing_at f m (l.at + 1)) (set l.state c.in-Some.v (get_or f l.at 0))) (sym taken.2),
    )

pub returns-clause-state_after : goal.returns-clause-state_after
returns-clause-state_after c =
    let l = c.loop-v in
    sym (l.invariant.5 ∙ apply_done _ l.at l.state c.in-None.ensures.steps.0)
