-- `task_dearest::edge::first_costing` meets its contract: no value before this one costs so much.
use Rattle.dearest.specs.InPlaceLaws.{seeking_next}
use Rattle.task_dearest.proofs.edge.first_costing.Goals as goal

pub loop-d-preserved : goal.loop-d-preserved
loop-d-preserved c = seeking_next _ _ c.loop-d.invariant c.loop-d-test.true c.cost_by.ensures.0 c.if-cost_by-cost.false
