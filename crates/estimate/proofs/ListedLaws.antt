-- Laws of the list that has one number for every fact, of the facts of a partial state, and of the sum of their numbers. That variable v can
-- have the value d, so that there is such a fact, is `d < get_or sizes v 0`.
use Rattle.std.specs.Prelude.{◌≡◌, refl, true, ℕ, zero, suc, ◌+◌, ◌%◌, ◌<◌, List, [], ◌∷◌, get_or}
use Rattle.std.proofs.Common.{ap, ◌∙◌, add-zero, zero-add, arith, eq-eqb}
use Rattle.facts.specs.Partial.{Partial, above}
use Rattle.facts.specs.WellFormed.{WfPartial}
use Rattle.estimate.specs.Number.{Number, sum, WithinCap}
use Rattle.estimate.specs.NumberLaws.{sum_within}
use Rattle.estimate.specs.Additive.{has_value, has, with_number, sum_from}
use Rattle.estimate.specs.ListedLaws.{has_fact}

-- ---- sums of the numbers of facts

with_number_within : (of : ℕ → ℕ → Number) (v b : ℕ) (values : List ℕ) (others : Number) → WithinCap others → WithinCap (with_number of v b values others)
with_number_within of v zero values others h = h
with_number_within of v (suc b) [] others h = h
with_number_within of v (suc b) (x ∷ values) others h = sum_within (of v x) others

-- they are within the cap, whatever the numbers are
pub sum_from_within : (of : ℕ → ℕ → Number) (v k : ℕ) (p : Partial) → WithinCap (sum_from of v k p)
sum_from_within of v zero p = omega arith
sum_from_within of v (suc k) p = with_number_within of v (p.map % 2) p.values (sum_from of (suc v) k (above p)) (sum_from_within of (suc v) k (above p))

with_number_same : (of new : ℕ → ℕ → Number) (v b : ℕ) (values : List ℕ) (others : Number) → ((d : ℕ) → has_value b values d ≡ true → of v d ≡ new v d)
    → with_number of v b values others ≡ with_number new v b values others
with_number_same of new v zero values others h = refl
with_number_same of new v (suc b) [] others h = refl
with_number_same of new v (suc b) (x ∷ values) others h = ap (λ a. sum a others) (h x (eq-eqb x x refl))

-- numbers that agree on the facts of p have one sum
sum_from_same : (of new : ℕ → ℕ → Number) (v k : ℕ) (p : Partial) → ((j d : ℕ) → j < k → has p j d ≡ true → of (v + j) d ≡ new (v + j) d)
    → sum_from of v k p ≡ sum_from new v k p
sum_from_same of new v zero p h = refl
sum_from_same of new v (suc k) p h =
    let here : (d : ℕ) → has_value (p.map % 2) p.values d ≡ true → of v d ≡ new v d = λ d e. rw (← add-zero v) (h 0 d (omega arith) e) in
    let rest : sum_from of (suc v) k (above p) ≡ sum_from new (suc v) k (above p)
    = sum_from_same of new (suc v) k (above p) (λ j d l e. let z : suc v + j ≡ v + suc j = omega arith in rw z (h (suc j) d (omega arith) e)) in
    with_number_same of new v (p.map % 2) p.values (sum_from of (suc v) k (above p)) here ∙ ap (with_number new v (p.map % 2) p.values) rest

-- numbers that agree on the facts of the file give a well-formed partial state one sum
pub facts_sum_same : {sizes : List ℕ} {p : Partial} → WfPartial sizes p → (of new : ℕ → ℕ → Number) → ((v d : ℕ) → d < get_or sizes v 0 → of v d ≡ new v d)
    → (k : ℕ) → sum_from of 0 k p ≡ sum_from new 0 k p
facts_sum_same {sizes} {p} w of new h k = sum_from_same of new 0 k p (λ j d l e. rw (zero-add j) (h j d (has_fact w j d e)))
