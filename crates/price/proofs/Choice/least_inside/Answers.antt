-- `least_inside` meets its contract: the best so far and the values that are left are together all values.
use Prim.Native.Nat.{◌-◌}
use mathlib.Core.Path.{sym, subst}
use native.Mathlib.Omega.{arith}
use Rattle.relaxation.specs.EstimateInPlaceLaws.{Picking, picking_start, picking_on}
use Rattle.relaxation.specs.Sums.{Settled}
use Rattle.relaxation.specs.SumsLaws.{settled_rank_lem, far_never, settled_lesser}
use Rattle.price.specs.Choice.{number_by}
use Rattle.price.proofs.Choice.least_inside.Goals as goal

pub loop-d-init : goal.loop-d-init
loop-d-init c =
    let a = c.args in
    subst (Picking (number_by a.self.now) a.size (a.size - 0) 0) (sym (far_never _ (omega arith))) (picking_start (omega arith))

pub loop-d-preserved : goal.loop-d-preserved
loop-d-preserved c =
    let l = c.loop-d in
    picking_on l.invariant (omega arith) (omega arith) c.edge_sum.ensures (settled_lesser l.best c.edge_sum.result c.min-best.ensures)

pub returns-clause-settled : goal.returns-clause-settled
returns-clause-settled c = subst Settled (sym c.settled.ensures) (settled_rank_lem c.loop-d.best)
