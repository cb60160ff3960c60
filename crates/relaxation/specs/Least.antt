-- The least over all states that have a value from each set, in any numbers that have a lesser of two. Document 01, "Relaxed cost and estimate".
use Rattle.std.specs.Prelude.{◌≡◌, ℕ, suc, ◌+◌, List, [], ◌∷◌, ◌++◌, map}

-- the least of a list; of an empty one, `none`
abbrev pub least_of : {C : Type 0} → (C → C → C) → C → List C → C
least_of lesser none [] = none
least_of lesser none (c ∷ []) = c
least_of lesser none (c ∷ d ∷ cs) = lesser c (least_of lesser none (d ∷ cs))

-- each state of `more` with each of the values before it
abbrev pub prefixed : List ℕ → List (List ℕ) → List (List ℕ)
prefixed [] more = []
prefixed (x ∷ values) more = map (λ (s : List ℕ). x ∷ s) more ++ prefixed values more

-- all states whose every value is in its variable's set; each set is given by its values
abbrev pub states : List (List ℕ) → List (List ℕ)
states [] = [] ∷ []
states (values ∷ sets) = prefixed values (states sets)

-- the least of f over all those states
abbrev pub least_over : {C : Type 0} → (C → C → C) → C → List (List ℕ) → (List ℕ → C) → C
least_over lesser none sets f = least_of lesser none (map f (states sets))

-- the sum of the numbers of a state's values, where the first variable has the number v
abbrev pub values_sum : {C : Type 0} → (C → C → C) → C → (ℕ → ℕ → C) → ℕ → List ℕ → C
values_sum sum none number v [] = none
values_sum sum none number v (d ∷ s) = sum (number v d) (values_sum sum none number (suc v) s)

-- a min-plus algebra: sums distribute over the lesser of two; `of` takes weights into it
pub record MinPlus {C : Type 0} (sum lesser : C → C → C) (of : ℕ → C) : Type 0 where
  pub sum_comm : (a b : C) → sum a b ≡ sum b a
  pub sum_assoc : (a b c : C) → sum (sum a b) c ≡ sum a (sum b c)
  pub lesser_assoc : (a b c : C) → lesser (lesser a b) c ≡ lesser a (lesser b c)
  pub sum_lesser : (a b c : C) → sum a (lesser b c) ≡ lesser (sum a b) (sum a c)
  pub of_sum : (m n : ℕ) → sum (of m) (of n) ≡ of (m + n)
