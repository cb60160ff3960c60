-- `diagram::edges_cut` meets its contract: what is left answers what the whole answers.
use mathlib.Core.Path.{refl, sym, ◌∙◌}
use Rattle.facts.specs.Lists.{up_from}
use Rattle.facts.specs.ListLaws.{length_up_from}
use Rattle.facts.specs.AnswerLaws.{handed}
use Rattle.facts.specs.EachLaws.{each_on, each_stops, each_done}
use Rattle.taskfile.specs.TaskFile.{read_edge, read_edges}
use native.Mathlib.Omega.{arith}
use Rattle.diagram.proofs.edges_cut.Goals as goal

pub loop-init : goal.loop-init
unfolding read_edges
loop-init c = refl

pub returns-in_err-at : goal.returns-in_err-at
returns-in_err-at c =
    let l = c.loop in
    let a = c.args in
    handed _ _ c.from_residual.ensures.1
    ∙ sym (l.invariant ∙ each_stops (λ x. read_edge a.file.now a.m a.i) (up_from 0 a.count) 0 l.counter l.at (omega (arith, length_up_from 0 a.count)) (sym c.in_err-at.ensures))

pub loop-preserved : goal.loop-preserved
loop-preserved c =
    let l = c.loop in
    let a = c.args in
    l.invariant ∙ each_on (λ x. read_edge a.file.now a.m a.i) (up_from 0 a.count) 0 l.counter l.at (omega (arith, length_up_from 0 a.count)) (sym c.in_ok-at.ensures)

pub returns : goal.returns
returns c =
    let l = c.loop in
    let a = c.args in
    sym (l.invariant ∙ each_done (λ x. read_edge a.file.now a.m a.i) (up_from 0 a.count) 0 l.counter l.at (omega (arith, length_up_from 0 a.count)))
