use Prim.Native.Nat.{◌≤◌}
use lib.ListN.{length}
use Rattle.facts.specs.Partial.{partial_at}
use Rattle.estimate.specs.Number.{number}
use Rattle.estimate.specs.Facts.{number_in}
use Rattle.estimate.specs.Additive.{sum_from}
use Rattle.estimate.specs.OfferLaws.{Summing}
use Rattle.offers.proofs.goal_sum.Given as goal

abbrev pub invariant-loop-v : goal.invariant-loop-v
invariant-loop-v l =
    (goal.iterator-loop-v).can_next l.v-iterator × (goal.iterator-loop-v).is_finite l.v-iterator
    × (l.end ≤ length l.file) × Summing (number_in l.numbers) l.file l.n l.v-iterator.rest l.end (sum_from (number_in l.numbers) 0 l.n (partial_at l.file l.at)) (number l.total)
