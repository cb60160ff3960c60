-- Laws of the least over all states: it is taken variable by variable, and a summand goes out of it.
use Rattle.std.specs.Prelude.{◌≡◌, refl, ℕ, suc, ◌<◌, List, [], ◌∷◌, ◌++◌, map, length}
use Rattle.std.proofs.Common.{sym, ap, ap₂, ◌∙◌, arith, append-nil, length-append}
use Rattle.std.proofs.lemmas.Simd.{map-map}
use Rattle.std.proofs.lemmas.List.{map-append, length-map}
use Rattle.facts.specs.Lists.{All, At, here, there}
use Rattle.relaxation.specs.Least.{least_of, prefixed, states, least_over, MinPlus}

-- functions that agree on the elements of a list have the same images
pub map_agree : {A B : Type 0} (f g : A → B) (xs : List A) → ((k : ℕ) (x : A) → At xs k x → f x ≡ g x) → map f xs ≡ map g xs
map_agree f g [] h = refl
map_agree f g (x ∷ xs) h = ap₂ ◌∷◌ (h 0 x here) (map_agree f g xs (λ k y a. h (suc k) y (there a)))

-- ---- sets that are not empty have states

-- with some values before some states
prefixed_some : (values : List ℕ) (more : List (List ℕ)) → 0 < length values → 0 < length more → 0 < length (prefixed values more)
prefixed_some [] more h k = absurd (omega arith)
prefixed_some (x ∷ values) more h k =
    let front = map (λ (s : List ℕ). x ∷ s) more in
    omega (arith, length-append front (prefixed values more), length-map more (λ (s : List ℕ). x ∷ s))

-- for all variables
pub states_some : (sets : List (List ℕ)) → All (λ values. 0 < length values) sets → 0 < length (states sets)
states_some [] h = omega arith
states_some (values ∷ sets) h = prefixed_some values (states sets) h.0 (states_some sets h.1)

-- ---- the least of a list

module _ {C : Type 0} {sum lesser : C → C → C} {of : ℕ → C} (algebra : MinPlus sum lesser of) (none : C) where
  -- the least of a list
  abbrev least : List C → C
  least cs = least_of lesser none cs

  -- of two lists in a row
  least_append : (xs ys : List C) → 0 < length xs → 0 < length ys → least (xs ++ ys) ≡ lesser (least xs) (least ys)
  least_append [] ys h k = absurd (omega arith)
  least_append (x ∷ xs) [] h k = absurd (omega arith)
  least_append (x ∷ []) (y ∷ ys) h k = refl
  least_append (x ∷ x' ∷ xs) (y ∷ ys) h k =
      ap (lesser x) (least_append (x' ∷ xs) (y ∷ ys) (omega arith) k) ∙ sym (algebra.lesser_assoc x (least (x' ∷ xs)) (least (y ∷ ys)))

  -- the first two taken together
  pub least_taken : (a b : C) (cs : List C) → least (a ∷ b ∷ cs) ≡ least (lesser a b ∷ cs)
  least_taken a b [] = refl
  least_taken a b (c ∷ cs) = sym (algebra.lesser_assoc a b (least (c ∷ cs)))

  -- a summand goes out
  pub least_sum : {A : Type 0} (a : C) (f : A → C) (xs : List A) → 0 < length xs → least (map (λ x. sum a (f x)) xs) ≡ sum a (least (map f xs))
  least_sum a f [] h = absurd (omega arith)
  least_sum a f (x ∷ []) h = refl
  least_sum a f (x ∷ y ∷ xs) h =
      ap (lesser (sum a (f x))) (least_sum a f (y ∷ xs) (omega arith)) ∙ sym (algebra.sum_lesser a (f x) (least (map f (y ∷ xs))))

  -- ---- the least over all states

  -- of the states with the value d before them
  over_value : (d : ℕ) (sets : List (List ℕ)) (f : List ℕ → C) → least (map f (map (λ (s : List ℕ). d ∷ s) (states sets))) ≡ least_over lesser none sets (λ s. f (d ∷ s))
  over_value d sets f = ap least (map-map f (λ (s : List ℕ). d ∷ s) (states sets))

  -- by the first variable's values
  pub over_next : (values : List ℕ) (sets : List (List ℕ)) (f : List ℕ → C) → 0 < length values → 0 < length (states sets)
      → least_over lesser none (values ∷ sets) f ≡ least (map (λ d. least_over lesser none sets (λ s. f (d ∷ s))) values)
  over_next [] sets f h k = absurd (omega arith)
  over_next (d ∷ []) sets f h k = ap (λ l. least (map f l)) (append-nil (map (λ (s : List ℕ). d ∷ s) (states sets))) ∙ over_value d sets f
  over_next (d ∷ e ∷ values) sets f h k =
      let front = map (λ (s : List ℕ). d ∷ s) (states sets) in
      let back = prefixed (e ∷ values) (states sets) in
      ap least (map-append f front back)
      ∙ least_append (map f front) (map f back)
      (omega (arith, length-map front f, length-map (states sets) (λ (s : List ℕ). d ∷ s)))
      (omega (arith, length-map back f, prefixed_some (e ∷ values) (states sets) (omega arith) k))
      ∙ ap₂ lesser (over_value d sets f) (over_next (e ∷ values) sets f (omega arith) k)
