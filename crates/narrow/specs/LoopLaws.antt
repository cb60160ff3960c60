-- Laws of the loop that narrows: where it stands at a variable, and the ways in which it goes on.
use Rattle.std.specs.Prelude.{◌≡◌, refl, Bool, List, ℕ, zero, suc, ◌+◌, ◌/◌, ◌%◌, ◌^◌, ◌≤◌, ◌<◌, length, get_or, set, drop, Option, None, Some, slice_get}
use Rattle.std.proofs.Common.{sym, ap, ap₂, ◌∙◌, inl, inr, eq-or-lt_of_le, add-one, arith, length-set, shr-shr, get_or-set_same, get_or-set_other, ext_get_or}
use Rattle.std.specs.Int.Count.{ones}
use Rattle.facts.specs.Read.{accepted, refused}
use Rattle.facts.specs.Lists.{up_from}
use Rattle.facts.specs.ListLaws.{look, look_none, at_get_d, length_up_from, at_up_from}
use Rattle.facts.specs.Partial.{Partial, empty, standing_at}
use Rattle.facts.specs.State.{check_each}
use Rattle.facts.specs.StateLaws.{values_on, values_outside, values_all}
use Rattle.value.specs.Value.{value_of, lower_standing}
use Rattle.value.specs.ValueLaws.{if_stands}
use Rattle.value.specs.FileLaws.{value_from}
use Rattle.relaxation.specs.RelaxedTask.{allows, check_meets}
use Rattle.relaxation.specs.Narrowing.{kept_set, narrowed}
use Rattle.relaxation.specs.PassLaws.{at_value}
use Rattle.relaxation.specs.KeptLaws.{kept_lacks, kept_has}
use Rattle.relaxation.specs.NarrowingLaws.{length_narrowed, narrowed_at}

-- ---- the check, and the copy

-- Where it stands at variable v: what is left of the check, and the copy up to there.
pub record Going (p : Partial) (sets copy : List ℕ) (v : ℕ) : Type 0 where
  pub upto : v ≤ length sets
  pub long : length copy ≡ length sets
  pub left : check_meets p sets ≡ check_each 17 (λ v set. allows set (value_of p v)) v (drop v (up_from 0 (length sets))) (drop v sets)
  pub done : (k : ℕ) → k < v → get_or copy k 0 ≡ get_or (narrowed p sets) k 0

pub going_start : (p : Partial) (sets copy : List ℕ) → length copy ≡ length sets → Going p sets copy 0
unfolding check_meets
going_start p sets copy e = record { upto = omega arith; long = e; left = refl; done = λ k l. absurd (omega arith) }

module _ {p : Partial} {sets copy : List ℕ} {v : ℕ} (g : Going p sets copy v) where
  -- the numbers of the variables
  abbrev numbers : List ℕ
  numbers = up_from 0 (length sets)

  many : length numbers ≡ length sets
  many = length_up_from 0 (length sets)

  abbrev good : ℕ → ℕ → Bool
  good v set = allows set (value_of p v)

  module _ (l : v < length sets) {kept : ℕ} (e : kept ≡ kept_set (get_or sets v 0) (value_of p v)) where
    -- the number of this one
    number_at : get_or numbers v 0 ≡ v
    number_at = sym (at_value 0 (at_up_from 0 (length sets) v v l (omega arith)) refl)

    good_at : {b : Bool} → allows (get_or sets v 0) (value_of p v) ≡ b → good (get_or numbers v 0) (get_or sets v 0) ≡ b
    good_at h = ap (λ (u : ℕ). allows (get_or sets v 0) (value_of p u)) number_at ∙ h

    -- nothing is left of its set
    pub going_lacks : 0 < get_or sets v 0 → kept ≡ 0 → check_meets p sets ≡ refused 17 v
    going_lacks not_empty z = g.left ∙ values_outside 17 good numbers sets v (omega (arith, many)) l (good_at (kept_lacks (get_or sets v 0) (value_of p v) not_empty (sym e ∙ z)))

    copied : (k : ℕ) → k < v + 1 → get_or (set copy v kept) k 0 ≡ get_or (narrowed p sets) k 0
    copied k m =
        let n : k ≤ v = omega arith in
        elim (eq-or-lt_of_le n) [
          | inl q ↦ rw (q, get_or-set_same copy v kept 0 (omega (arith, g.long))) (e ∙ sym (narrowed_at 0 p sets v v l (omega arith)))
          | inr j ↦ rw (get_or-set_other copy v k kept 0 (λ q. omega arith)) (g.done k j)
        ]

    -- something is
    pub going_next : (kept ≡ 0 → ⊥) → Going p sets (set copy v kept) (v + 1)
    going_next h = record {
      upto = omega arith;
      long = length-set copy v kept ∙ g.long;
      left = g.left ∙ values_on 17 good numbers sets v (omega (arith, many)) l (good_at (kept_has (get_or sets v 0) (value_of p v) (λ z. h (e ∙ z))));
      done = copied;
    }

  pub going_end : length sets ≤ v → (check_meets p sets ≡ accepted tt) × (copy ≡ narrowed p sets)
  going_end l = (
    g.left ∙ values_all 17 good numbers sets v (omega (arith, many)),
    ext_get_or 0 copy (narrowed p sets) (g.long ∙ sym (length_narrowed 0 p sets)) (λ k m. g.done k (omega (arith, g.long))),
  )

-- ---- the map, and its values in the file

-- At variable v of the map m, whose values begin at an offset: the bits that are left, and where the value of the lowest of them lies if it stands.
pub record Reading (m from v rest at : ℕ) : Type 0 where
  pub bits : rest ≡ m / 2 ^ v
  pub values : at ≡ from + lower_standing m v

pub reading_start : (m from : ℕ) → Reading m from 0 m from
reading_start m from = record { bits = omega arith; values = omega arith }

module _ {m from v rest at : ℕ} (r : Reading m from v rest at) where
  -- what is found is the variable's value
  pub reading_value : (f : List ℕ) → if_stands (rest % 2) (slice_get f at) ≡ value_of (standing_at f m from) v
  reading_value f = ap₂ (λ (b k : ℕ). if_stands (b % 2) (slice_get f k)) r.bits r.values ∙ sym (value_from f m from v)

  pub reading_next : Reading m from (v + 1) (rest / 2) (at + rest % 2)
  reading_next = record {
    bits = ap (λ (b : ℕ). b / 2) r.bits ∙ shr-shr m v 1;
    values = rw (add-one v) (omega (arith, r.values, ap (λ (b : ℕ). b % 2) r.bits));
  }

-- ---- a value, by the lowest bit that is left

pub next_clear : {b : ℕ} (o : Option ℕ) → b ≡ 0 → None ≡ if_stands b o
next_clear o e = sym (ap (λ (b : ℕ). if_stands b o) e)

if_none : (b : ℕ) → None ≡ if_stands b None
if_none zero = refl
if_none (suc b) = refl

pub next_cut : (b : ℕ) (f : List ℕ) (at : ℕ) → length f ≤ at → None ≡ if_stands b (slice_get f at)
next_cut b f at l = if_none b ∙ ap (if_stands b) (sym (look_none f at l))

pub next_there : (b : ℕ) (f : List ℕ) (at : ℕ) → (b ≡ 0 → ⊥) → at < length f → Some (get_or f at 0) ≡ if_stands b (slice_get f at)
next_there zero f at h l = absurd (h refl)
next_there (suc b) f at h l = sym (look (at_get_d f at 0 l))

pub next_stands : (b : ℕ) (o : Option ℕ) → (b ≡ 0 → ⊥) → o ≡ if_stands b o
next_stands zero o h = absurd (h refl)
next_stands (suc b) o h = refl

-- a map of no bits has no facts
pub no_facts : (f : List ℕ) (at : ℕ) → standing_at f 0 at ≡ empty
unfolding standing_at ones
no_facts f at = refl
