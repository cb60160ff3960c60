-- `partial::values_cut` meets its contract: from the next standing bit on, what is left answers what the whole answers.
use mathlib.Core.Path.{sym, ap, ◌∙◌}
use Rattle.facts.specs.AnswerLaws.{handed}
use Rattle.partial.proofs.Loops.{Rest, values_next, values_refused, values_over, values_done}
use Rattle.partial.proofs.values_cut.Goals as goal

pub returns-then-sizes-v : goal.returns-then-sizes-v
returns-then-sizes-v c =
    let a = c.args in
    let l = c.loop-v in
    sym (l.invariant.2 ∙ values_over a.file.now a.sizes.now c.in-Some.ensures.steps.1 l.at c.if-sizes-v.true)

pub returns-in_err-at : goal.returns-in_err-at
returns-in_err-at c =
    let a = c.args in
    let l = c.loop-v in
    handed _ _ c.from_residual.ensures.1
    ∙ sym (l.invariant.2 ∙ values_refused a.file.now a.sizes.now c.in-Some.ensures.steps.1 l.at c.if-sizes-v.false c.in_err-at.ensures)

pub loop-v-preserved : goal.loop-v-preserved
loop-v-preserved c =
    let a = c.args in
    let l = c.loop-v in
    let taken = c.in-Some.ensures.steps in (
      tt,
      tt,
      l.invariant.2 ∙ values_next a.file.now a.sizes.now taken.1 l.at c.if-sizes-v.false c.in_ok-at.ensures ∙ ap (λ m. Rest a.file.now a.sizes.now m c.in_ok-at.at) (sym taken.2),
    )

pub returns : goal.returns
returns c =
    let a = c.args in
    let l = c.loop-v in
    sym (l.invariant.2 ∙ values_done a.file.now a.sizes.now l.at c.in-None.ensures.steps.0)
