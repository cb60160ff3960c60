-- Laws of the loops over the standing bits of a partial state in place: the sum of its facts' numbers, and what is offered to its facts. What is
-- left of the map is m, from variable v on; its lowest standing bit is z variables further, and `above` is left above it.
use Rattle.std.specs.Prelude.{◌≡◌, ℕ, suc, ◌+◌, ◌*◌, ◌-◌, ◌<◌, List, length, get_or}
use Rattle.std.proofs.Math.Path.{sym, ap}
use Rattle.std.proofs.Common.{ap₂, ◌∙◌, subst, add-one, arith}
use Rattle.std.specs.Int.Bits.{bit_and}
use Rattle.facts.specs.Bits.{Lowest}
use Rattle.facts.specs.BitsLaws.{skip_cleared, first_odd, above_odd}
use Rattle.facts.specs.Partial.{Partial, above, standing_at}
use Rattle.estimate.specs.Number.{Number, exact, sum, WithinCap}
use Rattle.estimate.specs.NumberLaws.{sum_zero, sum_assoc, sum_within}
use Rattle.estimate.specs.Additive.{with_number, sum_from}
use Rattle.estimate.proofs.ListedLaws.{sum_from_within}
use Rattle.estimate.specs.OfferLaws.{left_first, left_even, left_skip, all_left, Summing}

-- ---- the sum

module _ (of : ℕ → ℕ → Number) (f : List ℕ) (n : ℕ) where
  -- what is left to add
  abbrev Left : ℕ → ℕ → ℕ → Number
  Left m at v = sum_from of v (n - v) (standing_at f m at)

  module _ {m z a : ℕ} (e : Lowest m z a) (at v : ℕ) where
    left_next : v + z < n → at < length f → Left m at v ≡ sum (of (v + z) (get_or f at 0)) (Left a (at + 1) (v + z + 1))
    left_next l h =
        let others = sum_from of (suc (v + z)) (n - suc (v + z)) (above (standing_at f (2 * a + 1) at)) in
        left_skip of f n e at v
        ∙ left_first of f n (2 * a + 1) at (v + z) l
        ∙ first_odd (λ b values. with_number of (v + z) b values others) f a at h
        ∙ ap (λ (p : Partial). sum (of (v + z) (get_or f at 0)) (sum_from of (suc (v + z)) (n - suc (v + z)) p)) (above_odd f a at h)
        ∙ ap (λ (w : ℕ). sum (of (v + z) (get_or f at 0)) (Left a (at + 1) w)) (sym (add-one (v + z)))

  -- that from the first variable on
  abbrev All : ℕ → ℕ → Number
  All m at = sum_from of 0 n (standing_at f m at)

  all_next : {m z a : ℕ} → Lowest m z a → (at : ℕ) → z < n → at < length f → All m at ≡ sum (of z (get_or f at 0)) (All (bit_and m (m - 1)) (at + 1))
  all_next {m} {z} e at l h =
      let here : 0 + z ≡ z = omega arith in
      all_left of f n m at
      ∙ left_next e at 0 (omega arith) h
      ∙ ap₂ (λ (u : ℕ) (others : Number). sum (of u (get_or f at 0)) others) here (sym (all_left of f n (bit_and m (m - 1)) (at + 1) ∙ skip_cleared (λ m v. Left m (at + 1) v) (left_even of f n (at + 1)) e))

pub summing_start : (of : ℕ → ℕ → Number) (f : List ℕ) (n m at : ℕ) → Summing of f n m at (sum_from of 0 n (standing_at f m at)) (exact 0)
summing_start of f n m at = record { within = omega arith; same = sym (sum_zero (sum_from of 0 n (standing_at f m at)) (sum_from_within of 0 n (standing_at f m at))) }

module _ {of : ℕ → ℕ → Number} {f : List ℕ} {n m at : ℕ} {whole total : Number} (g : Summing of f n m at whole total) where
  module _ {z a : ℕ} (e : Lowest m z a) where
    -- the next value is added
    pub summing_more : {next x : Number} → z < n → at < length f → x ≡ of z (get_or f at 0) → next ≡ sum total x → Summing of f n (bit_and m (m - 1)) (at + 1) whole next
    summing_more {next} {x} l h q s =
        let later = sum_from of 0 n (standing_at f (bit_and m (m - 1)) (at + 1)) in
        record {
          within = subst WithinCap (sym s) (sum_within total x);
          same = g.same ∙ ap (sum total) (all_next of f n e at l h ∙ ap (λ b. sum b later) (sym q)) ∙ sym (sum_assoc total x later) ∙ ap (λ b. sum b later) (sym s);
        }
