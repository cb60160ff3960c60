use Rattle.relaxation.specs.EstimateInPlaceLaws.{TurningFrom}
use Rattle.task_estimate.proofs.rounds.ActionsAchievers.offer.Given as goal

abbrev pub invariant-loop-a : goal.invariant-loop-a
invariant-loop-a l = TurningFrom l.self.file.now l.self.sizes.now l.self.row.now l.self.count l.a l.initial.ranks l.ranks l.fell
