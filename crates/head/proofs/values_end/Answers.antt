-- `head::values_end` meets its contract: what is left answers what the whole answers.
use mathlib.Core.Path.{refl, sym, ap, ◌∙◌}
use Rattle.facts.specs.AnswerLaws.{handed}
use Rattle.facts.specs.Fields.{read_value, read_values}
use Rattle.facts.specs.EachLaws.{each_on, each_stops, each_done}
use native.Mathlib.Omega.{arith}
use Rattle.head.proofs.values_end.Goals as goal

pub loop-size-init : goal.loop-size-init
unfolding read_values
loop-size-init c = refl

pub returns-in_err-at : goal.returns-in_err-at
returns-in_err-at c =
    let l = c.loop-size in
    let a = c.args in
    handed _ _ c.from_residual.ensures.1 ∙ sym (l.invariant ∙ each_stops (read_value a.file.now) a.sizes.now 0 l.size-index l.at (omega arith) (sym c.in_err-at.ensures))

pub loop-size-preserved : goal.loop-size-preserved
loop-size-preserved c =
    let l = c.loop-size in
    let a = c.args in
    l.invariant ∙ each_on (read_value a.file.now) a.sizes.now 0 l.size-index l.at (omega arith) (sym c.in_ok-at.ensures)

pub returns : goal.returns
returns c =
    let l = c.loop-size in
    let a = c.args in
    sym (l.invariant ∙ each_done (read_value a.file.now) a.sizes.now 0 l.size-index l.at c.loop-size-test.false)
