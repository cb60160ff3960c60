-- `probe_estimate::rounds::settle` meets its contract: each array has room for all facts of the file.
use native.Mathlib.Omega.{arith}
use Rattle.estimate.specs.RanksLaws.{roomy_few}
use Rattle.probe_estimate.specs.EstimateLaws.{posed}
use Rattle.probe_estimate.proofs.rounds.settle.Goals as goal

pub settle-requires-clause-posed : goal.settle-requires-clause-posed
settle-requires-clause-posed c = posed c.requires

pub settle-requires-clause-room : goal.settle-requires-clause-room
settle-requires-clause-room c = roomy_few c.requires.room (omega arith)

pub settle-requires-then-sizes-le-FEWER-clause-posed : goal.settle-requires-then-sizes-le-FEWER-clause-posed
settle-requires-then-sizes-le-FEWER-clause-posed c = posed c.requires

pub settle-requires-then-sizes-le-FEWER-clause-room : goal.settle-requires-then-sizes-le-FEWER-clause-room
settle-requires-then-sizes-le-FEWER-clause-room c = roomy_few c.requires.room (omega arith)

pub settle-requires-then-sizes-le-FEW-clause-posed : goal.settle-requires-then-sizes-le-FEW-clause-posed
settle-requires-then-sizes-le-FEW-clause-posed c = posed c.requires

pub settle-requires-then-sizes-le-FEW-clause-room : goal.settle-requires-then-sizes-le-FEW-clause-room
settle-requires-then-sizes-le-FEW-clause-room c = roomy_few c.requires.room (omega arith)

pub settle-requires-2-clause-posed : goal.settle-requires-2-clause-posed
settle-requires-2-clause-posed c = posed c.requires
