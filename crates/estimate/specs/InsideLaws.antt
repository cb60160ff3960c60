-- Laws of partial states that lie inside the file and have room among the ranks: they still do without their lowest standing bit, and sums of ranks below never's.
use Rattle.std.specs.Prelude.{◌≡◌, ℕ, ◌+◌, ◌*◌, ◌-◌, ◌/◌, ◌^◌, ◌≤◌, ◌<◌, min, List, length}
use Rattle.std.proofs.Common.{arith, pow_mono}
use Rattle.std.specs.Int.Bits.{bit_and}
use Rattle.std.proofs.lemmas.Nat.{and_le_r, ones-le}
use Rattle.facts.specs.Bits.{Lowest}
use Rattle.facts.specs.BitsLaws.{lowest_below, ones_cleared}
use Rattle.estimate.specs.Number.{never, sum, rank, ranked, over}
use Rattle.estimate.specs.NumberLaws.{ranked_sum}
use Rattle.estimate.specs.Facts.{most_variables, most_values}
use Rattle.estimate.specs.Ranks.{Inside}

-- a map with bits for such variables alone, of the first n, as have room among so many ranks, and enough bytes for its values
pub inside_of : {f : List ℕ} {from map count few : ℕ} (n : ℕ) → few ≡ min (min n most_variables) (count / most_values) → map < 2 ^ few → map < 2 ^ 64 → from + 64 ≤ length f
    → Inside f from map count × (map < 2 ^ n)
inside_of {f} {from} {map} {count} {few} n e low fits long =
    let of-n : few ≤ n = omega (arith, e) in (
      record { few = few; bits = low; variables = omega (arith, e); room = omega (arith, e); values = omega (arith, long, ones-le 64 map fits) },
      omega (arith, low, pow_mono of-n),
    )

module _ {f : List ℕ} {at m count : ℕ} (g : Inside f at m count) {z a : ℕ} (e : Lowest m z a) where
  -- its next value lies inside the file, and the variable has room
  pub inside_value : at < length f
  inside_value = omega (arith, g.values, ones_cleared e)

  pub inside_variable : (z < most_variables) × (z * most_values + most_values ≤ count)
  inside_variable = let below = lowest_below e g.few g.bits in (omega (arith, below, g.variables), omega (arith, below, g.room))

  -- and so on with what is left
  pub inside_next : Inside f (at + 1) (bit_and m (m - 1)) count
  inside_next = record { few = g.few; bits = omega (arith, g.bits, and_le_r m (m - 1)); variables = g.variables; room = g.room; values = omega (arith, g.values, ones_cleared e) }

-- a rank that is below never's is added to a sum of such ranks, which is over from over's rank on
pub ranked_add : (total x : ℕ) → x < rank never → ranked (min (total + x) (rank over)) ≡ sum (ranked (min total (rank over))) (ranked x)
ranked_add total x low = ranked_sum {m = min total (rank over)} {n = x} {r = min (total + x) (rank over)} (omega arith) low (omega arith)
