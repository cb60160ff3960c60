-- Laws of the loops over the standing bits of a map: one for each way in which a turn can go. What is left of the map is m, from variable v
-- on; its lowest standing bit is z variables further, and `above` is left above it.
use mathlib.Core.Path.{◌≡◌, refl, sym, ap, ap₂, ◌∙◌}
use Prim.Native.Nat.{ℕ, zero, suc, ◌+◌, ◌-◌, ◌*◌, ◌/◌, ◌%◌, ◌^◌, ◌≤◌, ◌<◌}
use native.Mathlib.Nat.{zero-add}
use native.Mathlib.Numerals.{add-one}
use native.Mathlib.Omega.{arith}
use mathlib.Core.Bool.{Bool, true, false, ◌&&◌}
use mathlib.Core.List.{List, [], ◌∷◌, ◌++◌, append-nil, append_assoc}
use lib.Bits.{bit_and}
use lib.Dec.{eqb}
use lib.ListN.{length, get_or, set, take, drop, drop_of_length-le}
use lib.Seq.{drop-cons, drop-drop, take-add, take-suc-set, drop-set-lt, append_snoc, take_all}
use borrow.Author.Tests.{eq-eqb, ne_eqb}
use Rattle.facts.specs.Read.{Read, accepted, refused, ◌>>=◌}
use Rattle.std.specs.Prelude.{Option, Some, None, IfSome}
use Rattle.facts.specs.Partial.{Partial, Alike, equal, agrees, after, rest, above, holds, apply, standing_at}
use Rattle.facts.specs.Bits.{Lowest}
use Rattle.facts.specs.BitsLaws.{even_bit, even_half, odd_bit, odd_half, skip, first_even, first_odd, first_cut, above_even, above_odd, no_bits, cut_values, cleared}
use Rattle.facts.specs.PartialLaws.{holds_empty, apply_empty}
use Rattle.facts.specs.Fields.{standing, next_of, read_value, read_values}
use Rattle.facts.specs.EachLaws.{next_each}

drop_one : (v : ℕ) (xs : List ℕ) → drop 1 (drop v xs) ≡ drop (suc v) xs
drop_one v xs = drop-drop 1 v xs ∙ rw (add-one v)

-- ---- past the values

standing_even : (m : ℕ) (xs : List ℕ) → standing (2 * m) xs ≡ standing m (drop 1 xs)
standing_even m [] = refl
standing_even m (d ∷ xs) = rw (even_bit m, even_half m, standing)

standing_odd : (m d : ℕ) (xs : List ℕ) → standing (2 * m + 1) (d ∷ xs) ≡ d ∷ standing m xs
standing_odd m d xs = rw (odd_bit m, odd_half m, standing)

-- the sizes of the standing bits of a map that has z zeros at its lower end
standing_shift : (sizes : List ℕ) (m z : ℕ) → standing (m * 2 ^ z) sizes ≡ standing m (drop z sizes)
standing_shift sizes m z =
    skip (λ m v. standing m (drop v sizes)) (λ m v. standing_even m (drop v sizes) ∙ rw (drop_one v sizes)) z m 0
    ∙ ap (λ (k : ℕ). standing m (drop k sizes)) (zero-add z)

module _ (sizes : List ℕ) {m z a : ℕ} (e : Lowest m z a) where
  standing_skip : standing m sizes ≡ standing (2 * a + 1) (drop z sizes)
  standing_skip = rw e.bits (standing_shift sizes (2 * a + 1) z)

  standing_cleared : standing (bit_and m (m - 1)) sizes ≡ standing a (drop (suc z) sizes)
  standing_cleared = ap (λ (k : ℕ). standing k sizes) (cleared e) ∙ standing_shift sizes a (suc z)

  standing_next : z < length sizes → standing m sizes ≡ get_or sizes z 0 ∷ standing (bit_and m (m - 1)) sizes
  standing_next l = standing_skip ∙ rw (drop-cons sizes z 0 l, standing_cleared) (standing_odd a (get_or sizes z 0) (drop (suc z) sizes))

  standing_over : length sizes ≤ z → standing m sizes ≡ []
  standing_over l = standing_skip ∙ rw (drop_of_length-le sizes l)

pub standing_none : (xs : List ℕ) → standing 0 xs ≡ []
standing_none [] = refl
standing_none (d ∷ xs) = standing_none xs

-- what the loop that goes past the values is to answer from here
abbrev pub Rest : List ℕ → List ℕ → ℕ → ℕ → Read ℕ
Rest f sizes m at = next_of (read_values f (standing m sizes) at)

module _ (f sizes : List ℕ) {m z a : ℕ} (e : Lowest m z a) (at : ℕ) where
  values_turn : z < length sizes → Rest f sizes m at ≡ ◌>>=◌ (next_of (read_value f (get_or sizes z 0) at)) (λ at. Rest f sizes (bit_and m (m - 1)) at)
  unfolding read_values
  values_turn l = rw (standing_next sizes e l) (next_each (read_value f) (get_or sizes z 0) (standing (bit_and m (m - 1)) sizes) at)

  pub values_next : {q : ℕ} → z < length sizes → accepted q ≡ next_of (read_value f (get_or sizes z 0) at) → Rest f sizes m at ≡ Rest f sizes (bit_and m (m - 1)) q
  values_next l h = values_turn l ∙ rw (← h)

  pub values_refused : {n p : ℕ} → z < length sizes → refused n p ≡ next_of (read_value f (get_or sizes z 0) at) → Rest f sizes m at ≡ refused n p
  values_refused l h = values_turn l ∙ rw (← h)

  pub values_over : length sizes ≤ z → Rest f sizes m at ≡ accepted at
  unfolding read_values
  values_over l = rw (standing_over sizes e l)

pub values_done : (f sizes : List ℕ) (at : ℕ) {m : ℕ} → m ≡ 0 → Rest f sizes m at ≡ accepted at
unfolding read_values
values_done f sizes at e = rw (e, standing_none sizes)

-- ---- a partial state in a state

module _ (f : List ℕ) (m at : ℕ) where
  holds_even : (xs : List ℕ) → holds (standing_at f (2 * m) at) xs ≡ holds (standing_at f m at) (drop 1 xs)
  holds_even [] = refl
  holds_even (x ∷ xs) = ap₂ ◌&&◌ (first_even (λ b values. agrees b values x) f m at) (ap (λ (p : Partial). holds p xs) (above_even f m at))

  holds_odd : at < length f → (x : ℕ) (xs : List ℕ) → holds (standing_at f (2 * m + 1) at) (x ∷ xs) ≡ (eqb (get_or f at 0) x && holds (standing_at f m (at + 1)) xs)
  holds_odd l x xs = ap₂ ◌&&◌ (first_odd (λ b values. agrees b values x) f m at l) (ap (λ (p : Partial). holds p xs) (above_odd f m at l))

  holds_cut : length f ≤ at → (x : ℕ) (xs : List ℕ) → holds (standing_at f (2 * m + 1) at) (x ∷ xs) ≡ false
  holds_cut l x xs = ap (λ (b : Bool). b && holds (above (standing_at f (2 * m + 1) at)) xs) (first_cut (λ b values. agrees b values x) f m at l)

  apply_even : (xs : List ℕ) → apply (standing_at f (2 * m) at) xs ≡ take 1 xs ++ apply (standing_at f m at) (drop 1 xs)
  apply_even [] = refl
  apply_even (x ∷ xs) = ap₂ (λ (y : ℕ) (ys : List ℕ). y ∷ ys) (first_even (λ b values. after b values x) f m at) (ap (λ (p : Partial). apply p xs) (above_even f m at))

  apply_odd : at < length f → (x : ℕ) (xs : List ℕ) → apply (standing_at f (2 * m + 1) at) (x ∷ xs) ≡ get_or f at 0 ∷ apply (standing_at f m (at + 1)) xs
  apply_odd l x xs = ap₂ (λ (y : ℕ) (ys : List ℕ). y ∷ ys) (first_odd (λ b values. after b values x) f m at l) (ap (λ (p : Partial). apply p xs) (above_odd f m at l))

no_bytes : (m : ℕ) (xs : List ℕ) → apply (record { map = m; values = [] }) xs ≡ xs
no_bytes m [] = refl
no_bytes m (x ∷ xs) = ap₂ (λ (y : ℕ) (ys : List ℕ). y ∷ ys) (one (m % 2)) (rw (none (m % 2)) (no_bytes (m / 2) xs))
  where
    one : (b : ℕ) → after b [] x ≡ x
    one zero = refl
    one (suc b) = refl

    none : (b : ℕ) → rest b [] ≡ []
    none zero = refl
    none (suc b) = refl

pub apply_cut : (f : List ℕ) (m at : ℕ) (xs : List ℕ) → length f ≤ at → apply (standing_at f m at) xs ≡ xs
unfolding standing_at
apply_cut f m at xs l = rw (cut_values f m at l) (no_bytes m xs)

pub holds_done : (f : List ℕ) (at : ℕ) (xs : List ℕ) {m : ℕ} → m ≡ 0 → holds (standing_at f m at) xs ≡ true
holds_done f at xs e = rw (e, no_bits f at) (holds_empty xs)

pub apply_done : (f : List ℕ) (at : ℕ) (s : List ℕ) {m : ℕ} → m ≡ 0 → apply (standing_at f m at) s ≡ s
apply_done f at s e = rw (e, no_bits f at) (apply_empty s)

-- the facts of a map that has z zeros at its lower end
module _ (f : List ℕ) (at : ℕ) (s : List ℕ) (m z : ℕ) where
  holds_shift : holds (standing_at f (m * 2 ^ z) at) s ≡ holds (standing_at f m at) (drop z s)
  holds_shift =
      skip (λ m v. holds (standing_at f m at) (drop v s)) (λ m v. holds_even f m at (drop v s) ∙ rw (drop_one v s)) z m 0
      ∙ ap (λ (k : ℕ). holds (standing_at f m at) (drop k s)) (zero-add z)

  apply_shift : apply (standing_at f (m * 2 ^ z) at) s ≡ take z s ++ apply (standing_at f m at) (drop z s)
  apply_shift =
      skip (λ m v. take v s ++ apply (standing_at f m at) (drop v s)) one z m 0
      ∙ ap (λ (k : ℕ). take k s ++ apply (standing_at f m at) (drop k s)) (zero-add z)
    where
      one : (m v : ℕ) → take v s ++ apply (standing_at f (2 * m) at) (drop v s) ≡ take (suc v) s ++ apply (standing_at f m at) (drop (suc v) s)
      one m v = rw (apply_even f m at (drop v s), ← append_assoc (take v s) (take 1 (drop v s)), ← take-add v 1 s, add-one v, drop_one v s)

module _ (f s : List ℕ) {m z a : ℕ} (e : Lowest m z a) (at : ℕ) where
  holds_skip : holds (standing_at f m at) s ≡ holds (standing_at f (2 * a + 1) at) (drop z s)
  holds_skip = rw e.bits (holds_shift f at s (2 * a + 1) z)

  pub holds_over : length s ≤ z → holds (standing_at f m at) s ≡ true
  holds_over l = holds_skip ∙ rw (drop_of_length-le s l)

  pub holds_short : z < length s → length f ≤ at → holds (standing_at f m at) s ≡ false
  holds_short l h = holds_skip ∙ rw (drop-cons s z 0 l) (holds_cut f a at h (get_or s z 0) (drop (suc z) s))

  holds_turn : z < length s → at < length f → holds (standing_at f m at) s ≡ (eqb (get_or f at 0) (get_or s z 0) && holds (standing_at f (bit_and m (m - 1)) (at + 1)) s)
  holds_turn l h =
      holds_skip
      ∙ (rw (drop-cons s z 0 l) (holds_odd f a at h (get_or s z 0) (drop (suc z) s)))
      ∙ ap (λ (b : Bool). eqb (get_or f at 0) (get_or s z 0) && b) (sym (ap (λ (k : ℕ). holds (standing_at f k (at + 1)) s) (cleared e) ∙ holds_shift f (at + 1) s a (suc z)))

  pub holds_not : z < length s → at < length f → (get_or f at 0 ≡ get_or s z 0 → ⊥) → holds (standing_at f m at) s ≡ false
  holds_not l h n = holds_turn l h ∙ rw (ne_eqb (get_or f at 0) (get_or s z 0) n)

  pub holds_next : z < length s → at < length f → get_or f at 0 ≡ get_or s z 0 → holds (standing_at f m at) s ≡ holds (standing_at f (bit_and m (m - 1)) (at + 1)) s
  holds_next l h n = holds_turn l h ∙ rw (eq-eqb (get_or f at 0) (get_or s z 0) n)

  apply_skip : apply (standing_at f m at) s ≡ take z s ++ apply (standing_at f (2 * a + 1) at) (drop z s)
  apply_skip = rw e.bits (apply_shift f at s (2 * a + 1) z)

  pub apply_over : length s ≤ z → apply (standing_at f m at) s ≡ s
  apply_over l = apply_skip ∙ rw (drop_of_length-le s l, take_all z s l, append-nil)

  pub apply_next : z < length s → at < length f → apply (standing_at f m at) s ≡ apply (standing_at f (bit_and m (m - 1)) (at + 1)) (set s z (get_or f at 0))
  apply_next l h =
      let x = get_or f at 0 in
      let left = ap (λ (k : ℕ). apply (standing_at f k (at + 1)) (set s z x)) (cleared e) ∙ apply_shift f (at + 1) (set s z x) a (suc z) in
      let same : take (suc z) (set s z x) ++ apply (standing_at f a (at + 1)) (drop (suc z) (set s z x)) ≡ take z s ++ (x ∷ apply (standing_at f a (at + 1)) (drop (suc z) s)) =
      rw (take-suc-set s z x l, drop-set-lt (suc z) s z x (omega arith), append_snoc) in
      apply_skip ∙ (rw (drop-cons s z 0 l, apply_odd f a at h (get_or s z 0) (drop (suc z) s))) ∙ sym (left ∙ same)

-- where the values end the partial state ends
pub ends_alike : (f : List ℕ) {end past : ℕ} → past ≡ end → (r : Option ℕ) → IfSome r (λ at. at ≡ end) → IfSome r (λ at. Alike f at past)
ends_alike f e (Some at) h = equal (h ∙ sym e)
ends_alike f e None h = tt
