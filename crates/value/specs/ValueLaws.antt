-- Laws of the value that a partial state has for a variable: it comes after the values of the lower standing bits; it is what has to hold, and what is set.
use Rattle.std.specs.Prelude.{◌≡◌, refl, ◌↔◌, ◌⊎◌, true, ◌&&◌, List, [], ◌∷◌, ℕ, zero, suc, ◌+◌, ◌-◌, ◌/◌, ◌%◌, ◌^◌, ◌≤◌, ◌<◌, length, get_or, Option, None, Some, slice_get, unwrap_or}
use Rattle.std.proofs.Common.{sym, ap, ap₂, ◌∙◌, inl, inr, mod-lt, arith, lit<, pow_pos, shr-shr, eq-eqb, eqb-true}
use Rattle.std.proofs.Math.Bool.{and-eq-true_iff}
use Rattle.std.proofs.lemmas.Option.{none-some, same_Some}
use Rattle.std.proofs.Math.Arith.{lt-one}
use Rattle.std.specs.Int.Count.{ones, ones_step}
use Rattle.std.proofs.lemmas.Nat.{ones_cat, ones-le, mod-pow-add}
use Rattle.std.proofs.Math.Pow.{split}
use Rattle.facts.specs.Partial.{Partial, agrees, after, rest, above, holds, apply, empty, value_place}
use Rattle.facts.specs.PartialLaws.{Has, Below}
use Rattle.value.specs.Value.{first_value, value_of, bit_of, lower_standing}

-- ---- the lower standing bits of a map

pub halved : (m v : ℕ) → m / 2 / 2 ^ v ≡ m / 2 ^ suc v
halved m v = shr-shr m 1 v ∙ ap (λ (k : ℕ). m / 2 ^ k) (omega arith)

-- the lowest bit, and those above it
lower_first : (m v : ℕ) → lower_standing m (suc v) ≡ m % 2 + lower_standing (m / 2) v
lower_first m zero = omega arith
lower_first m (suc v) = omega (arith, lower_first m v, ap (λ (h : ℕ). h % 2) (halved m v))

-- a turn of a loop over k bits: the lowest, and k - 1 above it; of no bits none stands
pub lower_turn : (m k : ℕ) → ((k ≡ 0) × (lower_standing m k ≡ 0) × (lower_standing (m / 2) (k - 1) ≡ 0)) ⊎ (lower_standing m k ≡ m % 2 + lower_standing (m / 2) (k - 1))
lower_turn m zero = inl (refl, refl, refl)
lower_turn m (suc k) = let z : k ≡ suc k - 1 = omega arith in inr (lower_first m k ∙ ap (λ (j : ℕ). m % 2 + lower_standing (m / 2) j) z)

ones_bit : (b : ℕ) → b < 2 → ones b ≡ b
unfolding ones
ones_bit zero l = refl
ones_bit (suc zero) l = refl
ones_bit (suc (suc b)) l = absurd (omega arith)

-- they are the ones of the map modulo 2 to the v
pub lower_ones : (m v : ℕ) → ones (m % 2 ^ v) ≡ lower_standing m v
lower_ones m zero = ap ones (lt-one (mod-lt m (lit< tt))) ∙ ones_bit 0 (omega arith)
lower_ones m (suc v) =
    let up : suc v ≡ 1 + v = omega arith in
    ap (λ (k : ℕ). ones (m % 2 ^ k)) up ∙ ap ones (mod-pow-add m 1 v) ∙ ones_cat v (bit_of m v) (m % 2 ^ v) (mod-lt m (pow_pos v))
    ∙ omega (arith, ones_bit (bit_of m v) (omega arith), lower_ones m v)

-- with bit v itself they are no more than all
pub lower_within : (m v : ℕ) → lower_standing m v + bit_of m v ≤ ones m
lower_within m v =
    omega (arith, ap ones (sym (split m v)) ∙ ones_cat v (m / 2 ^ v) (m % 2 ^ v) (mod-lt m (pow_pos v)), ones_step (m / 2 ^ v), lower_ones m v)

-- of a map of 64 bits there are at most 64
pub lower_most : (m v : ℕ) → m < 2 ^ 64 → lower_standing m v ≤ 64
lower_most m v h = omega (arith, lower_within m v, ones-le 64 m h)

-- "the byte found lies 8 bytes plus the count of lower standing bits past the map's first byte", for every map and every variable
pub place_counts : (m v : ℕ) → value_place m v ≡ 8 + lower_standing m v
unfolding value_place
place_counts m v = ap (λ (n : ℕ). 8 + n) (lower_ones m v)

-- ---- a value among the values

-- what there is, if a bit stands
abbrev pub if_stands : ℕ → Option ℕ → Option ℕ
if_stands zero o = None
if_stands (suc b) o = o

first_counted : (b : ℕ) (values : List ℕ) → first_value b values ≡ if_stands b (slice_get values 0)
first_counted zero values = refl
first_counted (suc b) [] = refl
first_counted (suc b) (d ∷ values) = refl

rest_counted : (b k : ℕ) (values : List ℕ) (c : ℕ) → b < 2 → k ≡ b + c → slice_get (rest b values) c ≡ slice_get values k
rest_counted zero k values c l e = let z : c ≡ k = omega arith in ap (slice_get values) z
rest_counted (suc b) k [] c l e = refl
rest_counted (suc b) k (d ∷ values) c l e = let z : suc c ≡ k = omega arith in ap (slice_get (d ∷ values)) z

-- a variable's value comes after as many as there are lower standing bits
pub value_counted : (p : Partial) (v : ℕ) → value_of p v ≡ if_stands (bit_of p.map v) (slice_get p.values (lower_standing p.map v))
value_counted p zero =
    let lowest : p.map % 2 ≡ bit_of p.map 0 = omega arith in
    first_counted (p.map % 2) p.values ∙ ap (λ (b : ℕ). if_stands b (slice_get p.values 0)) lowest
value_counted p (suc v) =
    let m = p.map in
    value_counted (above p) v
    ∙ ap₂ if_stands (ap (λ (h : ℕ). h % 2) (halved m v)) (rest_counted (m % 2) (lower_standing m (suc v)) p.values (lower_standing (m / 2) v) (omega arith) (lower_first m v))

pub value_empty : (v : ℕ) → value_of empty v ≡ None
value_empty zero = refl
value_empty (suc v) = value_empty v

-- ---- what has to hold

-- each value that p has is the state's
abbrev pub Agreeing : Partial → List ℕ → Type 0
Agreeing p s = (v d : ℕ) → value_of p v ≡ Some d → slice_get s v ≡ Some d

first_is : (b : ℕ) (values : List ℕ) (x d : ℕ) → agrees b values x ≡ true → first_value b values ≡ Some d → x ≡ d
first_is zero values x d h e = absurd (none-some d e)
first_is (suc b) [] x d h e = absurd (none-some d e)
first_is (suc b) (c ∷ values) x d h e = sym (eqb-true c x h) ∙ same_Some c d e

first_agrees : (b : ℕ) (values : List ℕ) (x : ℕ) → Has b values → ((d : ℕ) → first_value b values ≡ Some d → x ≡ d) → agrees b values x ≡ true
first_agrees zero values x h g = refl
first_agrees (suc b) [] x h g = absurd h
first_agrees (suc b) (c ∷ values) x h g = eq-eqb c x (sym (g c refl))

holds_values : (p : Partial) (s : List ℕ) → Below (length s) p → holds p s ≡ true → Agreeing p s
holds_values p [] below h v d e = absurd (none-some d (sym (ap (λ (q : Partial). value_of q v) below ∙ value_empty v) ∙ e))
holds_values p (x ∷ s) below h zero d e =
    ap Some (first_is (p.map % 2) p.values x d ((and-eq-true_iff (agrees (p.map % 2) p.values x) (holds (above p) s)).0 h).0 e)
holds_values p (x ∷ s) below h (suc v) d e =
    holds_values (above p) s below.1 ((and-eq-true_iff (agrees (p.map % 2) p.values x) (holds (above p) s)).0 h).1 v d e

values_hold : (p : Partial) (s : List ℕ) → Below (length s) p → Agreeing p s → holds p s ≡ true
values_hold p [] below g = refl
values_hold p (x ∷ s) below g =
    ap₂ ◌&&◌
    (first_agrees (p.map % 2) p.values x below.0 (λ d e. same_Some x d (g 0 d e)))
    (values_hold (above p) s below.1 (λ v d e. g (suc v) d e))

-- A partial state with a value for each standing bit and no others holds exactly if each value that it has is the state's.
pub holds_exactly : (p : Partial) (s : List ℕ) → Below (length s) p → (holds p s ≡ true) ↔ Agreeing p s
holds_exactly p s below = (holds_values p s below, values_hold p s below)

-- ---- what is set

first_after : (b : ℕ) (values : List ℕ) (x : ℕ) → after b values x ≡ unwrap_or (first_value b values) x
first_after zero values x = refl
first_after (suc b) [] x = refl
first_after (suc b) (d ∷ values) x = refl

-- Applied, a partial state leaves its value where it has one, and the state's where it has none.
pub apply_value : (p : Partial) (s : List ℕ) (v : ℕ) → v < length s → get_or (apply p s) v 0 ≡ unwrap_or (value_of p v) (get_or s v 0)
apply_value p [] v l = absurd (omega arith)
apply_value p (x ∷ s) zero l = first_after (p.map % 2) p.values x
apply_value p (x ∷ s) (suc v) l = apply_value (above p) s v (omega arith)
