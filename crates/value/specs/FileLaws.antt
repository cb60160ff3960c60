-- Laws of values in a file: where the value of a variable lies.
use Rattle.std.specs.Prelude.{◌≡◌, refl, ◌↔◌, true, List, [], ◌∷◌, ℕ, zero, suc, ◌+◌, ◌%◌, ◌^◌, ◌≤◌, ◌<◌, length, take, drop, get_or, Option, None, Some, slice_get}
use Rattle.std.proofs.Common.{sym, ap, ap₂, ◌∙◌, lt_of_lt_of_le, arith, pow_mono}
use Rattle.std.proofs.Math.Nat.{div-eq_of_lt}
use Rattle.std.specs.Int.Count.{ones}
use Rattle.facts.specs.Read.{accepted}
use Rattle.facts.specs.ListLaws.{look, look_none, at_get_d}
use Rattle.facts.specs.Fields.{read_partial}
use Rattle.facts.specs.Partial.{Partial, holds, value_place, standing_at}
use Rattle.facts.specs.PartialLaws.{wf_below, partial_here}
use Rattle.facts.specs.PartialReadLaws.{partial_read}
use Rattle.value.specs.Value.{value_of, bit_of, lower_standing}
use Rattle.value.specs.ValueLaws.{lower_within, place_counts, if_stands, value_counted, Agreeing, holds_exactly}

-- ---- the partial state of a map m whose values begin at an offset

look_take : (k : ℕ) (xs : List ℕ) (n : ℕ) → n < k → slice_get (take k xs) n ≡ slice_get xs n
look_take zero xs n l = absurd (omega arith)
look_take (suc k) [] n l = refl
look_take (suc k) (x ∷ xs) zero l = refl
look_take (suc k) (x ∷ xs) (suc n) l = look_take k xs n (omega arith)

look_drop : (k : ℕ) (xs : List ℕ) (n q : ℕ) → q ≡ k + n → slice_get (drop k xs) n ≡ slice_get xs q
look_drop zero xs n q e = let z : n ≡ q = omega arith in ap (slice_get xs) z
look_drop (suc k) [] n q e = refl
look_drop (suc k) (x ∷ xs) n zero e = absurd (omega arith)
look_drop (suc k) (x ∷ xs) n (suc q) e = look_drop k xs n q (omega arith)

if_standing : (b : ℕ) {o p : Option ℕ} → (0 < b → o ≡ p) → if_stands b o ≡ if_stands b p
if_standing zero h = refl
if_standing (suc b) h = h (omega arith)

-- a variable's value comes after as many as there are lower standing bits, if its bit stands and the file goes on
pub value_from : (f : List ℕ) (m from v : ℕ) → value_of (standing_at f m from) v ≡ if_stands (bit_of m v) (slice_get f (from + lower_standing m v))
unfolding standing_at
value_from f m from v =
    let n = lower_standing m v in
    value_counted (standing_at f m from) v ∙ if_standing (bit_of m v) (λ stands. look_take (ones m) (drop from f) n (omega (arith, lower_within m v)) ∙ look_drop from f n (from + n) refl)

-- ---- the same, where the values begin 8 bytes past an offset

module _ (f : List ℕ) (m at v : ℕ) where
  abbrev here : Option ℕ
  here = value_of (standing_at f m (at + 8)) v

  -- the bit does not stand
  pub value_clear : bit_of m v ≡ 0 → here ≡ None
  value_clear e = value_from f m (at + 8) v ∙ ap (λ (b : ℕ). if_stands b (slice_get f (at + 8 + lower_standing m v))) e

  -- no bit of a map of 64 bits stands from 64 on
  pub value_beyond : m < 2 ^ 64 → 64 ≤ v → here ≡ None
  value_beyond h l = value_clear (ap (λ (x : ℕ). x % 2) (div-eq_of_lt (lt_of_lt_of_le h (pow_mono l))))

  module _ (stands : bit_of m v ≡ 1) {place : ℕ} (e : place ≡ value_place m v) where
    pub standing : here ≡ slice_get f (at + place)
    standing =
        let same : at + 8 + lower_standing m v ≡ at + place = omega (arith, e, place_counts m v) in
        value_from f m (at + 8) v ∙ ap₂ (λ (b k : ℕ). if_stands b (slice_get f k)) stands same

    -- the bit stands, and the file goes on
    pub value_there : at + place < length f → here ≡ Some (get_or f (at + place) 0)
    value_there l = standing ∙ look (at_get_d f (at + place) 0 l)

    -- or it ends before
    pub value_cut : length f ≤ at + place → here ≡ None
    value_cut l = standing ∙ look_none f (at + place) l

-- ---- a partial state that is read

module _ (f sizes : List ℕ) (at : ℕ) {p : Partial} {end : ℕ} (read : read_partial f sizes at ≡ accepted (p, end)) where
  -- "For every map and every variable whose bit stands in it, the byte found lies 8 bytes plus the count of lower standing bits past the map's first byte": in
  -- every file, of every partial state that is read in it, at any offset; and there the file has a byte.
  pub value_lies : (v : ℕ) → bit_of p.map v ≡ 1
      → (at + (8 + lower_standing p.map v) < length f) × (value_of p v ≡ Some (get_or f (at + (8 + lower_standing p.map v)) 0))
  value_lies v stands =
      let r = partial_read f sizes at read in
      let n = lower_standing p.map v in
      let inside : at + (8 + n) < length f = omega (arith, lower_within p.map v, r.next, r.fits) in
      let same : p ≡ standing_at f p.map (at + 8) =
      r.same ∙ partial_here f at (omega (arith, r.next, r.fits)) ∙ ap (λ (m : ℕ). standing_at f m (at + 8)) (sym r.map) in
      (inside, ap (λ (q : Partial). value_of q v) same ∙ value_there f p.map at v stands (sym (place_counts p.map v)) inside)

  -- It holds exactly if each value that it has is the state's.
  pub read_holds : (s : List ℕ) → length s ≡ length sizes → (holds p s ≡ true) ↔ Agreeing p s
  read_holds s e = holds_exactly p s (rw e (wf_below (partial_read f sizes at read).wf))
