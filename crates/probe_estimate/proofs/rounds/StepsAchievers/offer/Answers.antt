-- `offer` of the steps meets its contract: the offers of the steps that are left make the whole.
use lib.ListN.{length}
use Rattle.estimate.specs.RanksLaws.{or_set, or_kept}
use Rattle.probe_estimate.specs.EstimateLaws.{steps_more, steps_all}
use Rattle.probe_estimate.proofs.rounds.StepsAchievers.offer.Goals as goal
use Rattle.probe_estimate.proofs.rounds.StepsAchievers.offer.Goals.{then-offer_step, else-offer_step}

pub loop-k-preserved : goal.loop-k-preserved
loop-k-preserved c =
    let s = c.args.self.now in
    let offered = c.offer_step.ensures in
    steps_more s.file.now s.offsets.now (length s.sizes.now) c.loop-k.k c.loop-k.invariant c.loop-k-test.true offered.has_ranks offered.fell
    (elim c.if-offer_step.branch [ then-offer_step t ↦ or_set _ t.if-offer_step.true t.fell-is | else-offer_step t ↦ or_kept _ t.if-offer_step.false t.fell-is ])

pub returns : goal.returns
returns c =
    let s = c.args.self.now in
    steps_all s.file.now s.offsets.now (length s.sizes.now) c.loop-k.k c.loop-k.invariant c.loop-k-test.false
