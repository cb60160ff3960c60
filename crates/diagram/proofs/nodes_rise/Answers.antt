-- `diagram::nodes_rise` meets its contract: what is left answers what the whole answers.
use Prim.Native.Nat.{◌+◌, ◌-◌}
use mathlib.Core.Path.{◌≡◌, sym, ap, ◌∙◌}
use Rattle.facts.specs.AnswerLaws.{handed}
use Rattle.taskfile.specs.InPlace.{nodes_rise}
use Rattle.taskfile.specs.TargetLaws.{nodes_fall, nodes_on, nodes_done}
use native.Mathlib.Omega.{arith}
use Rattle.diagram.proofs.nodes_rise.Goals as goal

pub returns-in_err-targets_rise : goal.returns-in_err-targets_rise
returns-in_err-targets_rise c = handed _ _ c.from_residual.ensures.1 ∙ sym (c.loop-j.invariant ∙ nodes_fall _ _ _ _ _ _ (omega (arith, c.loop-j-test.true)) (sym c.in_err-targets_rise.ensures))

pub loop-j-preserved : goal.loop-j-preserved
loop-j-preserved c =
    let l = c.loop-j in
    let a = c.args in
    let less : a.m - l.j - 1 ≡ a.m - (l.j + 1) = omega arith in
    l.invariant ∙ nodes_on _ _ _ _ _ _ (omega (arith, c.loop-j-test.true)) (sym c.in_ok-targets_rise.ensures) ∙ ap (nodes_rise a.file.now a.sizes.now a.offsets.now a.levels.now (l.j + 1)) less

pub returns : goal.returns
returns c = sym (c.loop-j.invariant ∙ nodes_done _ _ _ _ _ _ (omega arith))
