use Prim.Native.Nat.{ℕ, ◌+◌, ◌*◌, ◌^◌, ◌≤◌, ◌<◌, min}
use mathlib.Core.Path.{◌≡◌}
use lib.Count.{ones}
use lib.ListN.{length}
use Rattle.facts.specs.Partial.{standing_at}
use Rattle.estimate.specs.Number.{rank, ranked, over}
use Rattle.estimate.specs.Additive.{sum_from}
use Rattle.estimate.specs.Ranks.{rank_number, Inside}
use Rattle.estimate.specs.OfferLaws.{Summing}
use Rattle.offers.proofs.inside.sum_inside.Given as goal

abbrev pub invariant-loop-v : goal.invariant-loop-v
invariant-loop-v l =
    (goal.iterator-loop-v).can_next l.v-iterator × (goal.iterator-loop-v).is_finite l.v-iterator
    × (l.total + 4294967296 * ones l.v-iterator.rest ≤ 4294967296 * 64)
    × (l.end + ones l.v-iterator.rest ≡ l.from + ones l.map)
    × (l.v-iterator.rest ≤ l.map)
    × Inside l.file l.end l.v-iterator.rest (length l.ranks)
    × ((n : ℕ) → l.map < 2 ^ n → Summing (rank_number l.ranks) l.file n l.v-iterator.rest l.end (sum_from (rank_number l.ranks) 0 n (standing_at l.file l.map l.from)) (ranked (min l.total (rank over))))
