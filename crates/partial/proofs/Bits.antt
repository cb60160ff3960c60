-- Laws of the bits of a map: the lowest standing one, and those past the variables.
use mathlib.Core.Path.{◌≡◌, refl, ap, ◌∙◌}
use Prim.Native.Nat.{ℕ, zero, suc, ◌+◌, ◌*◌, ◌/◌, ◌%◌, ◌^◌, ◌≤◌, ◌<◌}
use native.Mathlib.Nat.{mul-le-mul_right, mod-lt, div-eq_of_lt, lt_of_not-le}
use native.Mathlib.Decide.{dec_le}
use native.Mathlib.Omega.{arith}
use lib.Count.{count_trailing_zeros, under}
use lib.Pow.{split, pow_pos, pow_mono, shr-shr}
use Rattle.facts.specs.Bits.{Lowest}
use Rattle.facts.specs.BitsLaws.{doubled}

-- a map has no bit from n up exactly if nothing is left of it after n halvings
pub no_stray : (map n : ℕ) → map / 2 ^ n ≡ 0 → map < 2 ^ n
no_stray map n e = omega (arith, split map n, mod-lt map (pow_pos n), ap (λ x. x * 2 ^ n) e)

pub some_stray : (map n : ℕ) → (map / 2 ^ n ≡ 0 → ⊥) → 2 ^ n ≤ map
some_stray map n h = elim (dec_le (2 ^ n) map) [ yes k ↦ k | no k ↦ absurd (h (div-eq_of_lt (lt_of_not-le k))) ]

-- ---- the lowest standing bit

lowest_even : (m z above : ℕ) → m % 2 ≡ 0 → Lowest (m / 2) z above → Lowest m (suc z) above
lowest_even m z above e l = record { bits = omega (arith, l.bits, doubled (2 * above + 1) z) }

pub lowest : (k m : ℕ) → 0 < m → m < 2 ^ k → Lowest m (count_trailing_zeros k m) (m / 2 ^ count_trailing_zeros k m / 2)
unfolding count_trailing_zeros
lowest zero m p h = absurd (omega arith)
lowest (suc k) m p h = go (m % 2) refl (λ q r. lowest k (m / 2) q r)
  where
    go : (b : ℕ) → m % 2 ≡ b → (0 < m / 2 → m / 2 < 2 ^ k → Lowest (m / 2) (count_trailing_zeros k (m / 2)) (m / 2 / 2 ^ count_trailing_zeros k (m / 2) / 2))
        → Lowest m (under b (count_trailing_zeros k (m / 2))) (m / 2 ^ under b (count_trailing_zeros k (m / 2)) / 2)
    go zero e ih =
        let z = count_trailing_zeros k (m / 2) in
        let same : m / 2 / 2 ^ z ≡ m / 2 ^ suc z = shr-shr m 1 z ∙ ap (λ (j : ℕ). m / 2 ^ j) (omega arith) in
        rw (← same) (lowest_even m z (m / 2 / 2 ^ z / 2) e (ih (omega arith) (omega arith)))
    go (suc b) e ih = record { bits = omega arith }

pub lowest_within : {m z a : ℕ} (k : ℕ) → Lowest m z a → m < 2 ^ k → z < k
lowest_within {m} {z} {a} k l h =
    let low : 1 * 2 ^ z ≤ (2 * a + 1) * 2 ^ z = mul-le-mul_right (2 ^ z) (omega arith) in
    lt_of_not-le (λ g. let most = pow_mono g in absurd (omega (arith, l.bits)))
