-- Laws of partial states.
use Rattle.std.specs.Prelude.{◌≡◌, refl, ℕ, zero, suc, ◌+◌, ◌/◌, ◌%◌, ◌^◌, ◌≤◌, ◌<◌, true, List, [], ◌∷◌, length, get_or}
use Rattle.std.proofs.Common.{sym, ap, ◌∙◌, arith, length-append, le-leb}
use Rattle.std.specs.Int.Count.{ones, ones_step}
use Rattle.std.proofs.lemmas.Bool.{lt-leb}
use Rattle.facts.specs.Bytes.{number_at, bytes_of}
use Rattle.facts.specs.Partial.{Partial, after, rest, above, holds, apply, empty, write_partial, standing_at, partial_at}
use Rattle.facts.specs.State.{Inside}
use Rattle.facts.specs.WellFormed.{Fits, Values, WfPartial}

pub length_apply : (p : Partial) (s : List ℕ) → length (apply p s) ≡ length s
length_apply p [] = refl
length_apply p (x ∷ s) = ap suc (length_apply (above p) s)

pub length_written : (p : Partial) → length (write_partial p) ≡ 8 + length p.values
unfolding write_partial
length_written p = length-append (bytes_of 8 p.map) p.values

-- ---- states inside the domains

pub inside_length : (sizes s : List ℕ) → Inside sizes s → length sizes ≡ length s
inside_length [] [] h = refl
inside_length [] (x ∷ s) h = absurd h
inside_length (d ∷ sizes) [] h = absurd h
inside_length (d ∷ sizes) (x ∷ s) h = ap suc (inside_length sizes s h.1)

pub inside_at : (sizes s : List ℕ) (v : ℕ) → Inside sizes s → v < length sizes → get_or s v 0 < get_or sizes v 0
inside_at [] [] v h l = absurd (omega arith)
inside_at [] (x ∷ s) v h l = absurd h
inside_at (d ∷ sizes) [] v h l = absurd h
inside_at (d ∷ sizes) (x ∷ s) zero h l = h.0
inside_at (d ∷ sizes) (x ∷ s) (suc v) h l = inside_at sizes s v h.1 (omega arith)

after_inside : (b : ℕ) (values : List ℕ) (x d : ℕ) → Fits b values d → x < d → after b values x < d
after_inside zero values x d h l = l
after_inside (suc b) [] x d h l = absurd h
after_inside (suc b) (v ∷ values) x d h l = h

pub apply_inside : (p : Partial) (sizes s : List ℕ) → Values p sizes → Inside sizes s → Inside sizes (apply p s)
apply_inside p [] [] h l = tt
apply_inside p [] (x ∷ s) h l = absurd l
apply_inside p (d ∷ sizes) [] h l = absurd l
apply_inside p (d ∷ sizes) (x ∷ s) h l = (after_inside (p.map % 2) p.values x d h.0 l.0, apply_inside (above p) sizes s h.1 l.1)

-- ---- facts of variables below k only, with a value for each standing bit and no others

abbrev pub Has : ℕ → List ℕ → Type 0
Has zero values = Unit {0}
Has (suc b) [] = ⊥
Has (suc b) (v ∷ values) = Unit {0}

abbrev pub Below : ℕ → Partial → Type 0
Below zero p = p ≡ empty
Below (suc k) p = Has (p.map % 2) p.values × Below k (above p)

no_values : (values : List ℕ) → 0 ≡ length values → values ≡ []
no_values [] e = refl
no_values (v ∷ values) e = absurd (omega arith)

count_step : (b : ℕ) (values : List ℕ) (q : ℕ) → b < 2 → b + q ≡ length values → Has b values × (q ≡ length (rest b values))
count_step zero values q h e = (tt, omega arith)
count_step (suc b) [] q h e = absurd (omega arith)
count_step (suc b) (v ∷ values) q h e = (tt, omega arith)

counted : (k : ℕ) (p : Partial) → p.map < 2 ^ k → ones p.map ≡ length p.values → Below k p
unfolding ones
counted zero p h e =
    let z : p.map ≡ 0 = omega arith in
    let w : p.values ≡ [] = no_values p.values (ap ones (sym z) ∙ e) in
    λ i. record { map = z i; values = w i }
counted (suc k) p h e =
    let c : Has (p.map % 2) p.values × (ones (p.map / 2) ≡ length (rest (p.map % 2) p.values)) = count_step (p.map % 2) p.values (ones (p.map / 2)) (omega arith) (sym (ones_step p.map) ∙ e) in
    (c.0, counted k (above p) (omega arith) c.1)

pub wf_below : {sizes : List ℕ} {p : Partial} → WfPartial sizes p → Below (length sizes) p
wf_below {sizes} {p} h = counted (length sizes) p h.map_below h.count

-- ---- as its bytes stand in a file

pub partial_here : (f : List ℕ) (at : ℕ) → at + 8 ≤ length f → partial_at f at ≡ standing_at f (number_at 8 f at) (at + 8)
unfolding partial_at
partial_here f at h = rw (le-leb (at + 8) (length f) h, partial_at)

pub partial_cut : (f : List ℕ) (at : ℕ) → length f < at + 8 → partial_at f at ≡ empty
unfolding partial_at
partial_cut f at h = rw (lt-leb (at + 8) (length f) h, partial_at)

pub holds_empty : (s : List ℕ) → holds empty s ≡ true
holds_empty [] = refl
holds_empty (x ∷ s) = holds_empty s

pub apply_empty : (s : List ℕ) → apply empty s ≡ s
apply_empty [] = refl
apply_empty (x ∷ s) = ap (λ (r : List ℕ). x ∷ r) (apply_empty s)
