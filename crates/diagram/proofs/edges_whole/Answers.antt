-- `diagram::edges_whole` meets its contract: what is left answers what the whole answers, and the file has its bytes.
use mathlib.Core.Path.{refl, sym, ◌∙◌}
use Rattle.facts.specs.Lists.{up_from}
use Rattle.facts.specs.ListLaws.{length_up_from}
use Rattle.facts.specs.EachLaws.{each_on, each_stops, each_done}
use Rattle.taskfile.specs.TaskFile.{read_edge, read_edges}
use Rattle.taskfile.specs.TargetLaws.{edge_wrong, edge_whole}
use native.Mathlib.Omega.{arith}
use Rattle.diagram.proofs.edges_whole.Goals as goal

pub loop-init : goal.loop-init
unfolding read_edges
loop-init c = (omega (arith, c.requires), refl)

pub loop-preserved : goal.loop-preserved
loop-preserved c =
    let l = c.loop in
    let a = c.args in (
      omega arith,
      l.invariant.1 ∙ each_on (λ x. read_edge a.file.now a.m a.i) (up_from 0 a.count) 0 l.counter l.at (omega (arith, length_up_from 0 a.count))
          (edge_whole a.file.now a.m a.i l.at (omega arith) (sym c.ahead.ensures ∙ c.if-ahead.true)),
    )

pub returns-in-loop : goal.returns-in-loop
returns-in-loop c =
    let l = c.loop in
    let a = c.args in
    sym (l.invariant.1 ∙ each_stops (λ x. read_edge a.file.now a.m a.i) (up_from 0 a.count) 0 l.counter l.at (omega (arith, length_up_from 0 a.count))
    (edge_wrong a.file.now a.m a.i l.at (omega arith) (sym c.ahead.ensures ∙ c.if-ahead.false)))

pub returns : goal.returns
returns c =
    let l = c.loop in
    let a = c.args in
    sym (l.invariant.1 ∙ each_done (λ x. read_edge a.file.now a.m a.i) (up_from 0 a.count) 0 l.counter l.at (omega (arith, length_up_from 0 a.count)))
