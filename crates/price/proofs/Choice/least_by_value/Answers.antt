-- `least_by_value` meets its contract: the best so far and the values that are left are together all values.
use mathlib.Core.Path.{ap, ◌∙◌}
use native.Mathlib.Omega.{arith}
use Rattle.estimate.specs.Number.{ranked}
use Rattle.estimate.specs.NumberLaws.{ranked_min}
use Rattle.relaxation.specs.EstimateInPlaceLaws.{picking_on}
use Rattle.price.proofs.Choice.least_by_value.Goals as goal

pub loop-d-preserved : goal.loop-d-preserved
loop-d-preserved c =
    let l = c.loop-d in
    picking_on l.invariant (omega arith) (omega arith) c.rank_for.ensures (ap ranked c.min-best.ensures ∙ ranked_min l.best c.rank_for.result)
