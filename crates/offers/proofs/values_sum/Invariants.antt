use Prim.Native.Nat.{◌+◌, ◌≤◌}
use mathlib.Core.Path.{◌≡◌}
use lib.Count.{ones}
use lib.ListN.{length}
use Rattle.facts.specs.Partial.{standing_at}
use Rattle.estimate.specs.Number.{ranked}
use Rattle.estimate.specs.Additive.{sum_from}
use Rattle.estimate.specs.Ranks.{rank_number}
use Rattle.estimate.specs.OfferLaws.{Summing}
use Rattle.offers.proofs.values_sum.Given as goal

abbrev pub invariant-loop-v : goal.invariant-loop-v
invariant-loop-v l =
    (goal.iterator-loop-v).can_next l.v-iterator × (goal.iterator-loop-v).is_finite l.v-iterator
    × (l.end ≤ length l.file) × (l.end + ones l.v-iterator.rest ≡ l.at + 8 + ones l.map) × Summing (rank_number l.ranks) l.file l.n l.v-iterator.rest l.end (sum_from (rank_number l.ranks) 0 l.n (standing_at l.file l.map (l.at + 8))) (ranked l.total)
