use Prim.Native.Nat.{◌-◌}
use Rattle.estimate.specs.Number.{ranked}
use Rattle.relaxation.specs.EstimateInPlaceLaws.{Picking}
use Rattle.relaxation.specs.Sums.{settled_rank}
use Rattle.price.specs.Choice.{number_by}
use Rattle.price.proofs.Choice.least_inside.Given as goal

abbrev pub invariant-loop-d : goal.invariant-loop-d
invariant-loop-d l = Picking (number_by l.self) l.size (l.size - l.d) l.d (ranked (settled_rank l.best))
