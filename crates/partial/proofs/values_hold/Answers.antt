-- `partial::values_hold` meets its contract: without the lowest standing bit, what is left holds where the whole does, and ends where it ends.
use Prim.Native.Nat.{◌+◌}
use mathlib.Core.Path.{sym, ap, ◌∙◌}
use lib.Count.{ones}
use Rattle.facts.specs.Partial.{holds, standing_at}
use Rattle.facts.specs.BitsLaws.{ones_cleared}
use Rattle.partial.proofs.Loops.{holds_next, holds_not, holds_short, holds_over, holds_done}
use native.Mathlib.Omega.{arith}
use Rattle.partial.proofs.values_hold.Goals as goal

pub returns-then-state-v-clause-result_value : goal.returns-then-state-v-clause-result_value
returns-then-state-v-clause-result_value c =
    let l = c.loop-v in
    let a = c.args in
    sym (l.invariant.4 ∙ holds_over a.file.now a.state.now c.in-Some.ensures.steps.1 l.at c.if-state-v.true)

pub returns-then-file-at-clause-result_value : goal.returns-then-file-at-clause-result_value
returns-then-file-at-clause-result_value c =
    let l = c.loop-v in
    let a = c.args in
    sym (l.invariant.4 ∙ holds_short a.file.now a.state.now c.in-Some.ensures.steps.1 l.at c.if-state-v.false c.if-file-at.true)

pub returns-then-file-at-2-clause-result_value : goal.returns-then-file-at-2-clause-result_value
returns-then-file-at-2-clause-result_value c =
    let l = c.loop-v in
    let a = c.args in
    sym (l.invariant.4 ∙ holds_not a.file.now a.state.now c.in-Some.ensures.steps.1 l.at c.if-state-v.false c.if-file-at.false c.if-file-at-2.true)

pub loop-v-preserved : goal.loop-v-preserved
loop-v-preserved c =
    let l = c.loop-v in
    let a = c.args in
    let taken = c.in-Some.ensures.steps in (
      tt,
      tt,
      omega arith,
      omega (arith, l.invariant.3, ones_cleared taken.1, ap ones taken.2),
      l.invariant.4 ∙ holds_next a.file.now a.state.now taken.1 l.at c.if-state-v.false c.if-file-at.false c.if-file-at-2.false ∙ ap (λ m. holds (standing_at a.file.now m (l.at + 1)) a.state.now) (sym taken.2),
    )

pub returns-clause-result_value : goal.returns-clause-result_value
returns-clause-result_value c =
    let l = c.loop-v in
    let a = c.args in
    sym (l.invariant.4 ∙ holds_done a.file.now l.at a.state.now c.in-None.ensures.steps.0)
