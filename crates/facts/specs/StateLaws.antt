-- Laws of states handed in: the ways in which the check can go, and what an accepted state is.
use Rattle.std.specs.Prelude.{◌≡◌, ℕ, suc, ◌+◌, ◌≤◌, ◌<◌, Bool, true, false, List, [], ◌∷◌, eqb, length, get_or, drop}
use Rattle.std.proofs.Common.{add-one, arith, drop_of_length-le, drop-cons, eq-eqb, ne_eqb, ltb-true, eqb-true}
use Rattle.std.proofs.Math.Dec.{ltb}
use Rattle.facts.specs.Read.{accepted, refused, check}
use Rattle.facts.specs.ReadLaws.{through, checked}
use Rattle.facts.specs.Lists.{Zip, nil, cons}
use Rattle.facts.specs.State.{Inside, check_each, check_values, check_with, check_state}

-- ---- by any test of the two numbers of a variable

-- at variable v
module _ (n : ℕ) (good : ℕ → ℕ → Bool) (sizes s : List ℕ) (v : ℕ) where
  pub values_on : v < length sizes → v < length s → good (get_or sizes v 0) (get_or s v 0) ≡ true
      → check_each n good v (drop v sizes) (drop v s) ≡ check_each n good (v + 1) (drop (v + 1) sizes) (drop (v + 1) s)
  values_on l m h = rw (drop-cons sizes v 0 l, drop-cons s v 0 m, add-one v, h)

  pub values_outside : v < length sizes → v < length s → good (get_or sizes v 0) (get_or s v 0) ≡ false → check_each n good v (drop v sizes) (drop v s) ≡ refused n v
  values_outside l m h = rw (drop-cons sizes v 0 l, drop-cons s v 0 m, h)

  pub values_all : length sizes ≤ v → check_each n good v (drop v sizes) (drop v s) ≡ accepted tt
  values_all l = rw (drop_of_length-le sizes l)

-- for all of them
pub values_good : (n : ℕ) (good : ℕ → ℕ → Bool) (v : ℕ) (sizes s : List ℕ) {u : Unit {0}} → check_each n good v sizes s ≡ accepted u → length s ≡ length sizes
    → Zip (λ d x. good d x ≡ true) sizes s
values_good n good v [] [] h l = nil
values_good n good v [] (x ∷ s) h l = absurd (omega arith)
values_good n good v (d ∷ sizes) [] h l = absurd (omega arith)
values_good n good v (d ∷ sizes) (x ∷ s) h l =
    let o = through (check (good d x) n v) h in
    cons (checked (good d x) n v o.first) (values_good n good (suc v) sizes s o.then (omega arith))

module _ (good : ℕ → ℕ → Bool) (sizes s : List ℕ) where
  pub with_width : (length s ≡ length sizes → ⊥) → check_with good sizes s ≡ refused 12 0
  with_width n = rw (ne_eqb (length s) (length sizes) n)

  pub with_values : length s ≡ length sizes → check_with good sizes s ≡ check_values good 0 sizes s
  with_values e = rw (eq-eqb (length s) (length sizes) e)

  -- there is one for each variable, and each passes the test
  pub with_good : {u : Unit {0}} → check_with good sizes s ≡ accepted u → Zip (λ d x. good d x ≡ true) sizes s
  with_good h =
      let o = through (check (eqb (length s) (length sizes)) 12 0) h in
      values_good 4 good 0 sizes s o.then (eqb-true (length s) (length sizes) (checked (eqb (length s) (length sizes)) 12 0 o.first))

-- ---- states

module _ (sizes s : List ℕ) where
  pub state_width : (length s ≡ length sizes → ⊥) → check_state sizes s ≡ refused 12 0
  unfolding check_state
  state_width n = with_width (λ d x. ltb x d) sizes s n

  pub state_values : length s ≡ length sizes → check_state sizes s ≡ check_values (λ d x. ltb x d) 0 sizes s
  unfolding check_state
  state_values e = with_values (λ d x. ltb x d) sizes s e

inside : {sizes s : List ℕ} → Zip (λ d x. ltb x d ≡ true) sizes s → Inside sizes s
inside nil = tt
inside (cons {a = d} {b = x} h z) = (ltb-true x d h, inside z)

pub state_inside : (sizes s : List ℕ) {u : Unit {0}} → check_state sizes s ≡ accepted u → Inside sizes s
unfolding check_state
state_inside sizes s h = inside (with_good (λ d x. ltb x d) sizes s h)
