-- Laws of reading a partial state: the ways in which it can go, and what an accepted one is.
use Rattle.std.specs.Prelude.{◌≡◌, refl, ℕ, zero, suc, ◌+◌, ◌/◌, ◌%◌, ◌^◌, ◌≤◌, ◌<◌, drop}
use Rattle.std.proofs.Math.Path.{sym, ap}
use Rattle.std.proofs.Common.{◌∙◌, pow-suc, arith, le-ltb, lt-ltb}
use mathlib.Core.List.{List, [], ◌∷◌}
use Rattle.std.proofs.Math.Dec.{ltb}
use Rattle.std.proofs.Math.ListN.{length, take}
use Rattle.std.specs.Int.Count.{ones, ones_step}
use Rattle.facts.specs.Read.{Read, accepted, refused, ◌>>=◌}
use Rattle.facts.specs.ReadLaws.{through, made, carried}
use Rattle.facts.specs.Lists.{Zip, nil, cons}
use Rattle.facts.specs.ListLaws.{zip_length}
use Rattle.facts.specs.Bytes.{number_at}
use Rattle.facts.specs.Partial.{Partial, rest, above, standing_at, partial_at}
use Rattle.facts.specs.PartialLaws.{Below, partial_here}
use Rattle.facts.specs.State.{Inside}
use Rattle.facts.specs.WellFormed.{Fits, Values, WfPartial}
use Rattle.facts.specs.Fields.{standing, next_of, read_number, read_map, read_values, read_partial}
use Rattle.facts.specs.FieldLaws.{Under, field_refused, field_wrong, field_good, map_read, values_read}

-- ---- the standing bits of a map

-- a bit and what it does with the list of the others
abbrev with_bit_lem : ℕ → ℕ → List ℕ → List ℕ
with_bit_lem b d ds = elim b [ zero ↦ ds | suc c ↦ d ∷ ds ]

length_with_bit : (b d : ℕ) (ds : List ℕ) → b < 2 → length (with_bit_lem b d ds) ≡ b + length ds
length_with_bit zero d ds h = omega arith
length_with_bit (suc b) d ds h = omega arith

pub standing_ones : (sizes : List ℕ) (map : ℕ) → map < 2 ^ length sizes → length (standing map sizes) ≡ ones map
unfolding ones
standing_ones [] map h = let z : map ≡ 0 = omega arith in rw z
standing_ones (d ∷ sizes) map h =
    length_with_bit (map % 2) d (standing (map / 2) sizes) (omega arith)
    ∙ ap (λ (n : ℕ). map % 2 + n) (standing_ones sizes (map / 2) (omega (arith, pow-suc 2 (length sizes)))) ∙ sym (ones_step map)

bit_values : (b d : ℕ) (ds sizes vs : List ℕ) (half : ℕ) → ((us : List ℕ) → Zip Under ds us → Values (record { map = half; values = us }) sizes)
    → Zip Under (with_bit_lem b d ds) vs → Fits b vs d × Values (record { map = half; values = rest b vs }) sizes
bit_values zero d ds sizes vs half ih z = (tt, ih vs z)
bit_values (suc b) d ds sizes [] half ih z = absurd (elim z [ ])
bit_values (suc b) d ds sizes (v ∷ vs) half ih (cons r z) = (r, ih vs z)

zip_values : (sizes : List ℕ) (map : ℕ) (vs : List ℕ) → Zip Under (standing map sizes) vs → Values (record { map = map; values = vs }) sizes
zip_values [] map vs z = tt
zip_values (d ∷ sizes) map vs z = bit_values (map % 2) d (standing (map / 2) sizes) sizes vs (map / 2) (λ us w. zip_values sizes (map / 2) us w) z

values_bit : (b d : ℕ) (ds vs : List ℕ) → Fits b vs d → Zip Under ds (rest b vs) → Zip Under (with_bit_lem b d ds) vs
values_bit zero d ds vs h z = z
values_bit (suc b) d ds [] h z = absurd h
values_bit (suc b) d ds (v ∷ vs) h z = cons h z

pub values_zip : (sizes : List ℕ) (p : Partial) → Below (length sizes) p → Values p sizes → Zip Under (standing p.map sizes) p.values
values_zip [] p b h = rw b nil
values_zip (d ∷ sizes) p b h = values_bit (p.map % 2) d (standing (p.map / 2) sizes) p.values h.0 (values_zip sizes (above p) b.1 h.1)

pub zip_inside : {xs ys : List ℕ} → Zip Under xs ys → Inside xs ys
zip_inside nil = tt
zip_inside (cons r z) = (r, zip_inside z)

pub inside_zip : (xs ys : List ℕ) → Inside xs ys → Zip Under xs ys
inside_zip [] [] h = nil
inside_zip [] (y ∷ ys) h = absurd h
inside_zip (x ∷ xs) [] h = absurd h
inside_zip (x ∷ xs) (y ∷ ys) h = cons h.0 (inside_zip xs ys h.1)

-- ---- in the file f

module _ (f : List ℕ) where
  -- ---- a partial state

  pub record PartialRead (sizes : List ℕ) (at : ℕ) (p : Partial) (e : ℕ) : Type 0 where
    pub wf : WfPartial sizes p
    pub map : p.map ≡ number_at 8 f at
    pub same : p ≡ partial_at f at
    pub next : e ≡ at + (8 + ones p.map)
    pub fits : e ≤ length f

  pub partial_read : (sizes : List ℕ) (at : ℕ) {p : Partial} {e : ℕ} → read_partial f sizes at ≡ accepted (p, e) → PartialRead sizes at p e
  unfolding read_partial standing_at
  partial_read sizes at h =
      let o = through (read_map f (length sizes) at) h in
      let map = o.got.0 in
      let q = through (read_values f (standing map sizes) o.got.1) o.then in
      let m = map_read f (length sizes) at o.first in
      let v = values_read f (standing map sizes) o.got.1 q.first in
      let len = standing_ones sizes map m.below in
      let bytes : q.got.0 ≡ take (ones map) (drop (at + 8) f) = v.bytes ∙ rw (len, m.next) in
      let here : partial_at f at ≡ record { map = map; values = take (ones map) (drop (at + 8) f) } = partial_here f at m.fits ∙ rw m.value in
      carried q.then (PartialRead sizes at) (record {
        wf = record { map_below = m.below; count = sym len ∙ zip_length v.under; values = zip_values sizes map q.got.0 v.under };
        map = sym m.value;
        same = ap (λ (xs : List ℕ). record { map = map; values = xs }) bytes ∙ sym here;
        next = omega (arith, v.next, m.next, len);
        fits = v.fits (omega (arith, m.next, m.fits));
      })

  -- the ways in which a partial state can go, past it
  module _ (sizes : List ℕ) (at : ℕ) where
    pub partial_refused : {n p : ℕ} → read_number f 8 at ≡ refused n p → next_of (read_partial f sizes at) ≡ refused n p
    unfolding read_partial read_map
    partial_refused h = rw (field_refused f 8 (λ map. ltb map (2 ^ length sizes)) 5 at h)

    module _ {map : ℕ} (h : read_number f 8 at ≡ accepted map) where
      pub partial_stray : 2 ^ length sizes ≤ map → next_of (read_partial f sizes at) ≡ refused 5 at
      unfolding read_partial read_map
      partial_stray l = rw (field_wrong f 8 (λ map. ltb map (2 ^ length sizes)) 5 at h (le-ltb map (2 ^ length sizes) l))

      partial_map : map < 2 ^ length sizes → read_map f (length sizes) at ≡ accepted (map, at + 8)
      unfolding read_map
      partial_map l = field_good f 8 (λ map. ltb map (2 ^ length sizes)) 5 at h (lt-ltb map (2 ^ length sizes) l)

      made_next : (r : Read (List ℕ × ℕ)) → next_of {X = Partial} (◌>>=◌ r (λ (p : List ℕ × ℕ). accepted (record { map = map; values = p.0 }, p.1))) ≡ next_of r
      made_next (accepted p) = refl
      made_next (refused n p) = refl

      past_values : map < 2 ^ length sizes → next_of (read_partial f sizes at) ≡ next_of (read_values f (standing map sizes) (at + 8))
      unfolding read_partial
      past_values l = rw (partial_map l) (made_next (read_values f (standing map sizes) (at + 8)))

      pub partial_value : {n p : ℕ} → map < 2 ^ length sizes → next_of (read_values f (standing map sizes) (at + 8)) ≡ refused n p → next_of (read_partial f sizes at) ≡ refused n p
      partial_value l e = past_values l ∙ e

      pub partial_next : {q : ℕ} → map < 2 ^ length sizes → next_of (read_values f (standing map sizes) (at + 8)) ≡ accepted q → next_of (read_partial f sizes at) ≡ accepted (at + (8 + ones map))
      partial_next {q} l e =
          let m = made (λ (p : List ℕ × ℕ). p.1) (read_values f (standing map sizes) (at + 8)) e in
          let v = values_read f (standing map sizes) (at + 8) m.answer in
          past_values l ∙ e ∙ ap accepted (omega (arith, m.value, v.next, standing_ones sizes map l))
