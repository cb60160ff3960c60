use Rattle.facts.specs.Partial.{standing_at}
use Rattle.estimate.specs.Number.{ranked}
use Rattle.estimate.specs.Ranks.{rank_number, Fell, after_offer}
use Rattle.estimate.specs.OfferLaws.{Offering}
use Rattle.offers.proofs.values_lowered.Given as goal

abbrev pub invariant-loop-v : goal.invariant-loop-v
invariant-loop-v l =
    (goal.iterator-loop-v).can_next l.v-iterator × (goal.iterator-loop-v).is_finite l.v-iterator
    × Fell l.initial.ranks l.ranks l.fell × Offering (ranked l.offer) l.file l.v-iterator.rest l.at (after_offer (record { effect = standing_at l.file l.map l.from; number = ranked l.offer }) (rank_number l.initial.ranks)) l.ranks
