use lib.ListN.{length}
use Rattle.probe_estimate.specs.EstimateLaws.{TurningFrom}
use Rattle.probe_estimate.proofs.rounds.StepsAchievers.offer.Given as goal

abbrev pub invariant-loop-k : goal.invariant-loop-k
invariant-loop-k l = TurningFrom l.self.file.now l.self.offsets.now (length l.self.sizes.now) l.k l.initial.ranks l.ranks l.fell
