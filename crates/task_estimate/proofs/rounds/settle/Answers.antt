-- `task_estimate::rounds::settle` meets its contract: each array has room for all facts of the task.
use native.Mathlib.Omega.{arith}
use Rattle.facts.specs.Partial.{partial_at}
use Rattle.estimate.specs.RanksLaws.{roomy_few}
use Rattle.offers.specs.Rounds.{WellPosed}
use Rattle.relaxation.specs.EstimateInPlace.{achievers_in}
use Rattle.relaxation.proofs.EstimateInPlaceLaws.{achievers_wf, actions_supported}
use Rattle.task_estimate.proofs.rounds.settle.Goals as goal
use Rattle.task_estimate.proofs.rounds.settle.Goals.{Start}

-- offers of actions end on their estimate
posed : (c : goal.Start) → let a = c.args in WellPosed a.sizes.now (achievers_in a.file.now a.sizes.now a.row.now 0 a.count) (partial_at a.file.now a.goal)
posed c = let a = c.args in record { achievers_wf = achievers_wf c.requires; supported = actions_supported a.file.now a.sizes.now a.row.now a.count; goal_wf = c.requires.goal_is }

pub settle-requires-clause-posed : goal.settle-requires-clause-posed
settle-requires-clause-posed c = posed (goal.at.settle-requires-clause-posed c).Start

pub settle-requires-clause-room : goal.settle-requires-clause-room
settle-requires-clause-room c = roomy_few c.requires.room (omega arith)

pub settle-requires-then-sizes-le-FEW-clause-posed : goal.settle-requires-then-sizes-le-FEW-clause-posed
settle-requires-then-sizes-le-FEW-clause-posed c = posed (goal.at.settle-requires-then-sizes-le-FEW-clause-posed c).Start

pub settle-requires-then-sizes-le-FEW-clause-room : goal.settle-requires-then-sizes-le-FEW-clause-room
settle-requires-then-sizes-le-FEW-clause-room c = roomy_few c.requires.room (omega arith)

pub settle-requires-2-clause-posed : goal.settle-requires-2-clause-posed
settle-requires-2-clause-posed c = posed (goal.at.settle-requires-2-clause-posed c).Start
