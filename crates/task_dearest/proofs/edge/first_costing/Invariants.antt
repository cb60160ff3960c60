use Rattle.relaxation.specs.RelaxedInPlace.{cost_for}
use Rattle.dearest.specs.InPlaceLaws.{Seeking}
use Rattle.task_dearest.proofs.edge.first_costing.Given as goal

abbrev pub invariant-loop-d : goal.invariant-loop-d
invariant-loop-d l = Seeking (cost_for l.file l.node l.table) l.cost l.size l.d
