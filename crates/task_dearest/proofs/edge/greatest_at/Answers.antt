-- `task_dearest::edge::greatest_at` meets its contract: the greatest so far and the values that are left are together all values.
use native.Mathlib.Omega.{arith}
use Rattle.dearest.specs.InPlaceLaws.{choosing_next}
use Rattle.task_dearest.proofs.edge.greatest_at.Goals as goal

pub loop-d-preserved : goal.loop-d-preserved
loop-d-preserved c =
    let l = c.loop-d in
    let cost = c.cost_by.ensures in
    (choosing_next _ l.invariant.0 c.loop-d-test.true cost.0 (omega arith), omega (arith, l.invariant.1, cost.1))
