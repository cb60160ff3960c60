-- Laws of the array of facts: one store, and how the numbers of a state come to stand in it.
use Rattle.std.specs.Prelude.{ℕ, zero, suc, ◌+◌, ◌≤◌, ◌<◌, min, ◌≡◌, refl, ◌≢◌, List, [], ◌∷◌, length, get_or, take, set, replicate}
use Rattle.std.proofs.Common.{sym, ap, ◌∙◌, add-one, arith, length-set, get_or-set_same, get_or-set_other, eq-eqb, ne_eqb}
use Rattle.std.proofs.Math.Decide.{ℕ_discrete}
use Rattle.std.proofs.lemmas.List.{length-replicate, get_or-replicate}
use Rattle.estimate.specs.declared.Est.{Est}
use Rattle.estimate.specs.declared.Est.TheVariants.{Never, Exact}
use Rattle.estimate.specs.Number.{Number, exact, number}
use Rattle.estimate.specs.Facts.{most_variables, most_values, most_facts, fact_index, HasNumbers, start_number}

-- ---- the array

-- it has other numbers too, if they agree on all facts for which there is room
pub numbers_agree : {numbers : List Est} {old new : ℕ → ℕ → Number} → HasNumbers numbers old
    → ((v d : ℕ) → v < most_variables → d < most_values → old v d ≡ new v d) → HasNumbers numbers new
numbers_agree h e = record { count = h.count; at = λ v d v-lt d-lt. h.at v d v-lt d-lt ∙ e v d v-lt d-lt }

-- a store changes the number of one fact
pub numbers_set : {numbers : List Est} {old new : ℕ → ℕ → Number} (v d : ℕ) (e : Est) → HasNumbers numbers old → v < most_variables → d < most_values
    → number e ≡ new v d → ((w c : ℕ) → (w ≡ v → c ≢ d) → old w c ≡ new w c) → HasNumbers (set numbers (fact_index v d) e) new
numbers_set {numbers} {old} {new} v d e h v-lt d-lt here other =
    record {
      count = length-set numbers (fact_index v d) e ∙ h.count;
      at = λ w c w-lt c_lt. go w c w-lt c_lt (ℕ_discrete (fact_index w c) (fact_index v d));
    }
  where
    go : (w c : ℕ) → w < most_variables → c < most_values → Dec (fact_index w c ≡ fact_index v d)
        → number (get_or (set numbers (fact_index v d) e) (fact_index w c) Never) ≡ new w c
    go w c w-lt c_lt (yes i) =
        let same-variable : w ≡ v = omega arith in
        let same-value : c ≡ d = omega arith in
        rw (same-variable, same-value) (ap number (get_or-set_same numbers (fact_index v d) e Never (omega (arith, h.count))) ∙ here)
    go w c w-lt c_lt (no i) =
        ap number (get_or-set_other numbers (fact_index v d) (fact_index w c) e Never i) ∙ h.at w c w-lt c_lt ∙ other w c (λ p q. i (rw (p, q)))

-- ---- the numbers of a state, by how many of its variables are read

pub start_here : (s : List ℕ) (v : ℕ) → v < length s → start_number (take (suc v) s) v (get_or s v 0) ≡ exact 0
start_here [] v l = absurd (omega arith)
start_here (x ∷ s) zero l = rw (eq-eqb x x refl, start_number)
start_here (x ∷ s) (suc v) l = start_here s v (omega arith)

pub start_other : (s : List ℕ) (v w d : ℕ) → v < length s → (w ≡ v → d ≢ get_or s v 0) → start_number (take v s) w d ≡ start_number (take (suc v) s) w d
start_other [] v w d l other = absurd (omega arith)
start_other (x ∷ s) zero zero d l other = rw (ne_eqb x d (λ e. other refl (sym e)), start_number)
start_other (x ∷ s) zero (suc w) d l other = refl
start_other (x ∷ s) (suc v) zero d l other = refl
start_other (x ∷ s) (suc v) (suc w) d l other = start_other s v w d (omega arith) (λ e. other (ap suc e))

-- those of a variable, if it is read, or all are
pub start_below : (s : List ℕ) (n v d : ℕ) → min (length s) (suc v) ≤ n → start_number (take n s) v d ≡ start_number s v d
start_below [] zero v d l = refl
start_below [] (suc n) v d l = refl
start_below (x ∷ s) zero v d l = absurd (omega arith)
start_below (x ∷ s) (suc n) zero d l = refl
start_below (x ∷ s) (suc n) (suc v) d l = start_below s n v d (omega arith)

-- a state's own facts
pub start_own : (s : List ℕ) (v : ℕ) → v < length s → start_number s v (get_or s v 0) ≡ exact 0
start_own s v l = sym (start_below s (suc v) v (get_or s v 0) (omega arith)) ∙ start_here s v l

-- ---- the array, by how many variables of a state are read

pub start_none : HasNumbers (replicate most_facts Never) (start_number [])
start_none =
    record {
      count = length-replicate most_facts Never;
      at = λ v d v-lt d-lt. ap number (get_or-replicate most_facts (fact_index v d) Never Never (omega arith));
    }

module _ {numbers : List Est} (s : List ℕ) (v : ℕ) (h : HasNumbers numbers (start_number (take v s))) where
  -- the value of the next variable is stored
  pub start_stored : v < length s → v < most_variables → get_or s v 0 < most_values
      → HasNumbers (set numbers (fact_index v (get_or s v 0)) (Exact 0)) (start_number (take (v + 1) s))
  start_stored l v-lt d-lt = rw (add-one v) (numbers_set v (get_or s v 0) (Exact 0) h v-lt d-lt (sym (start_here s v l)) (λ w d other. start_other s v w d l other))

  -- there is no room for the value of the next variable
  pub start_passed : v < length s → most_values ≤ get_or s v 0 → HasNumbers numbers (start_number (take (v + 1) s))
  start_passed l big = rw (add-one v) (numbers_agree h (λ w d w-lt d-lt. start_other s v w d l (λ p q. omega arith)))

  -- all variables are read, or there is no room for the next
  pub start_full : min (length s) most_variables ≤ v → HasNumbers numbers (start_number s)
  start_full l = numbers_agree h (λ w d w-lt d-lt. start_below s v w d (omega arith))
