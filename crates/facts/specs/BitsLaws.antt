-- Laws of the standing bits of a map, for loops that go from one to the next: zeros below a bit change nothing, and what a partial state in
-- place is at its first variable and above it.
use Rattle.std.specs.Prelude.{◌≡◌, refl, ℕ, zero, suc, ◌+◌, ◌-◌, ◌*◌, ◌/◌, ◌%◌, ◌^◌, ◌≤◌, ◌<◌, List, [], ◌∷◌, length, get_or, take, drop}
use Rattle.std.proofs.Common.{sym, ap, ap₂, ◌∙◌, pow-suc, add-mul, mul_assoc, lt_of_not-le, mul-le-mul_right, arith, pow_pos, pow_mono}
use Rattle.std.proofs.Math.Nat.{mod_self}
use Rattle.std.proofs.Math.Numerals.{add-one}
use Rattle.std.specs.Int.Bits.{bit_and, and_self}
use Rattle.std.proofs.lemmas.Nat.{and_block, and_mask}
use Rattle.std.specs.Int.Count.{ones, ones_step}
use Rattle.std.proofs.Math.ListN.{drop_of_length-le}
use Rattle.std.proofs.Math.Seq.{drop-cons, take-nil}
use Rattle.facts.specs.Bits.{Lowest}
use Rattle.facts.specs.Partial.{Partial, above, empty, standing_at}

-- ---- a map

pub doubled : (m z : ℕ) → m * 2 ^ suc z ≡ 2 * (m * 2 ^ z)
doubled m z = rw (pow-suc 2 z, ← mul_assoc m (2 ^ z) 2) (omega arith)

-- what does not change by a bit that does not stand does not change by all zeros below a bit
pub skip : {X : Type 0} (F : ℕ → ℕ → X) → ((m v : ℕ) → F (2 * m) v ≡ F m (suc v)) → (z m v : ℕ) → F (m * 2 ^ z) v ≡ F m (v + z)
skip F h zero m v = ap₂' (omega arith) (omega arith)
  where
    ap₂' : {a b c d : ℕ} → a ≡ b → c ≡ d → F a c ≡ F b d
    ap₂' p q = rw (p, q)
skip F h (suc z) m v =
    let next : v + suc z ≡ suc v + z = omega arith in
    rw (doubled m z, next) (h (m * 2 ^ z) v ∙ skip F h z m (suc v))

-- the map without its lowest standing bit
pub cleared : {m z a : ℕ} → Lowest m z a → bit_and m (m - 1) ≡ a * 2 ^ suc z
cleared {m} {z} {a} l =
    let spread : (2 * a + 1) * 2 ^ z ≡ a * 2 ^ suc z + 2 ^ z = omega (arith, add-mul (2 * a) 1 (2 ^ z), mul_assoc 2 a (2 ^ z), doubled a z) in
    let whole : m ≡ a * 2 ^ suc z + 2 ^ z = l.bits ∙ spread in
    let less : m - 1 ≡ a * 2 ^ suc z + (2 ^ z - 1) = omega (arith, whole, pow_pos z) in
    let up = pow-suc 2 z in
    ap₂ bit_and whole less ∙ and_block (suc z) a a (2 ^ z) (2 ^ z - 1) (omega (arith, pow_pos z, up)) (omega (arith, pow_pos z, up))
    ∙ omega (arith, ap (λ (x : ℕ). x * 2 ^ suc z) (and_self a), and_mask (2 ^ z) z, mod_self (2 ^ z))

-- nor by taking the lowest standing bit away
pub skip_cleared : {X : Type 0} (F : ℕ → ℕ → X) → ((m v : ℕ) → F (2 * m) v ≡ F m (suc v)) → {m z a : ℕ} → Lowest m z a → F (bit_and m (m - 1)) 0 ≡ F a (0 + z + 1)
skip_cleared F h {m} {z} {a} l =
    let up : 0 + suc z ≡ 0 + z + 1 = omega arith in
    ap (λ (m : ℕ). F m 0) (cleared l) ∙ skip F h (suc z) a 0 ∙ ap (F a) up

-- a map whose lowest bit does not stand, and one whose lowest bit stands
pub even_bit : (m : ℕ) → (2 * m) % 2 ≡ 0
even_bit m = omega arith

pub even_half : (m : ℕ) → 2 * m / 2 ≡ m
even_half m = omega arith

pub odd_bit : (m : ℕ) → (2 * m + 1) % 2 ≡ 1
odd_bit m = omega arith

pub odd_half : (m : ℕ) → (2 * m + 1) / 2 ≡ m
odd_half m = omega arith

pub ones_even : (m : ℕ) → ones (2 * m) ≡ ones m
ones_even m = ones_step (2 * m) ∙ ap₂ (λ (b h : ℕ). b + ones h) (even_bit m) (even_half m) ∙ omega arith

pub ones_odd : (m : ℕ) → ones (2 * m + 1) ≡ suc (ones m)
ones_odd m = ones_step (2 * m + 1) ∙ ap₂ (λ (b h : ℕ). b + ones h) (odd_bit m) (odd_half m) ∙ omega arith

-- zeros below a bit change no count
ones_shift : (m z : ℕ) → ones (m * 2 ^ z) ≡ ones m
ones_shift m z = skip (λ m v. ones m) (λ m v. ones_even m) z m 0

-- the map without its lowest standing bit has one standing bit less
pub ones_cleared : {m z a : ℕ} → Lowest m z a → ones m ≡ suc (ones (bit_and m (m - 1)))
ones_cleared {m} {z} {a} l = ap ones l.bits ∙ ones_shift (2 * a + 1) z ∙ ones_odd a ∙ ap suc (sym (ap ones (cleared l) ∙ ones_shift a (suc z)))

pub ones_none : {m : ℕ} → m ≡ 0 → ones m ≡ 0
unfolding ones
ones_none e = ap ones e

-- the lowest standing bit of a map is below what the map is below
pub lowest_below : {m z a : ℕ} → Lowest m z a → (k : ℕ) → m < 2 ^ k → z < k
lowest_below {m} {z} {a} e k l = lt_of_not-le (λ (g : k ≤ z). absurd (omega (arith, l, e.bits, pow_mono g, mul-le-mul_right (2 ^ z) one)))
  where
    one : 1 ≤ 2 * a + 1
    one = omega arith

-- ---- a partial state in place

-- what g makes of the bit of a partial state's first variable and the values
abbrev pub first : {X : Type 0} → (ℕ → List ℕ → X) → Partial → X
first g p = g (p.map % 2) p.values

module _ {X : Type 0} (g : ℕ → List ℕ → X) (f : List ℕ) (m at : ℕ) where
  -- its bit does not stand
  pub first_even : first g (standing_at f (2 * m) at) ≡ g 0 (take (ones m) (drop at f))
  unfolding standing_at
  first_even = rw (even_bit m, ones_even m)

  -- its bit stands, and its value is there
  pub first_odd : at < length f → first g (standing_at f (2 * m + 1) at) ≡ g 1 (get_or f at 0 ∷ take (ones m) (drop (at + 1) f))
  unfolding standing_at
  first_odd l = rw (odd_bit m, ones_odd m, drop-cons f at 0 l, add-one at)

  -- or the file ends before it
  pub first_cut : length f ≤ at → first g (standing_at f (2 * m + 1) at) ≡ g 1 []
  unfolding standing_at
  first_cut l = rw (odd_bit m, drop_of_length-le f l, take-nil (ones (2 * m + 1)))

module _ (f : List ℕ) (m at : ℕ) where
  -- the variables above it
  pub above_even : above (standing_at f (2 * m) at) ≡ standing_at f m at
  unfolding standing_at
  above_even = rw (even_bit m, even_half m, ones_even m)

  pub above_odd : at < length f → above (standing_at f (2 * m + 1) at) ≡ standing_at f m (at + 1)
  unfolding standing_at
  above_odd l = rw (odd_bit m, odd_half m, ones_odd m, add-one at, drop-cons f at 0 l)

  -- past the end of the file there are no values
  pub cut_values : length f ≤ at → standing_at f m at ≡ record { map = m; values = [] }
  unfolding standing_at
  cut_values l = rw (drop_of_length-le f l, take-nil (ones m))

-- no bit stands
pub no_bits : (f : List ℕ) (at : ℕ) → standing_at f 0 at ≡ empty
unfolding standing_at ones
no_bits f at = refl
