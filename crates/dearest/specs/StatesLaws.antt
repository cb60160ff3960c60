-- Laws of all states of a task: they are those inside the domains, in their order when read from variable 0.
use Rattle.std.specs.Prelude.{◌≡◌, refl, ◌⊎◌, ℕ, zero, suc, ◌≤◌, ◌<◌, Bool, true, false, List, [], ◌∷◌, ◌++◌, map, Some}
use Rattle.std.proofs.Common.{inl, inr, arith}
use Rattle.facts.specs.Lists.{up_from, find, All, At, here, there}
use Rattle.facts.specs.ListLaws.{at_none, at_up_from, all_at}
use Rattle.facts.specs.State.{Inside}
use Rattle.relaxation.specs.Least.{prefixed}
use Rattle.relaxation.specs.PassingLaws.{In}
use Rattle.relaxation.specs.LeastCostLaws.{up_from_below}
use Rattle.relaxation.specs.NarrowingLaws.{behind, prefixed_in}
use Rattle.dearest.specs.Dearest.{all_states, Smaller}

-- ---- the states inside the domains

pub all_inside : (sizes : List ℕ) {k : ℕ} {s : List ℕ} → At (all_states sizes) k s → Inside sizes s
all_inside [] here = tt
all_inside [] (there a) = absurd (at_none a)
all_inside (size ∷ sizes) a =
    let o = behind (up_from 0 size) (all_states sizes) a in
    rw o.2 (all_at (λ (d : ℕ). d < size) (up_from_below 0 size size (omega arith)) o.3.1, all_inside sizes o.4.1)

pub inside_all : (sizes s : List ℕ) → Inside sizes s → In (all_states sizes) s
inside_all [] [] i = (0, here)
inside_all [] (d ∷ s) i = absurd i
inside_all (size ∷ sizes) [] i = absurd i
inside_all (size ∷ sizes) (d ∷ s) i = prefixed_in (at_up_from 0 size d d i.0 (omega arith)) (inside_all sizes s i.1)

-- ---- the order

pub smaller_once : (s z : List ℕ) → Smaller s z → Smaller z s → ⊥
smaller_once [] z l k = l
smaller_once (x ∷ s) [] l k = l
smaller_once (x ∷ s) (y ∷ z) (inl l) (inl k) = omega arith
smaller_once (x ∷ s) (y ∷ z) (inl l) (inr k) = omega (arith, k.0)
smaller_once (x ∷ s) (y ∷ z) (inr l) (inl k) = omega (arith, l.0)
smaller_once (x ∷ s) (y ∷ z) (inr l) (inr k) = smaller_once s z l.1 k.1

-- each state is smaller than those after it
abbrev pub Ordered : List (List ℕ) → Type 0
Ordered [] = Unit {0}
Ordered (s ∷ more) = All (Smaller s) more × Ordered more

all_append : (P : List ℕ → Type 0) (xs ys : List (List ℕ)) → All P xs → All P ys → All P (xs ++ ys)
all_append P [] ys h k = k
all_append P (x ∷ xs) ys h k = (h.0, all_append P xs ys h.1 k)

all_of : {P : List ℕ → Type 0} (xs : List (List ℕ)) → ((k : ℕ) (s : List ℕ) → At xs k s → P s) → All P xs
all_of [] h = tt
all_of (x ∷ xs) h = (h 0 x here, all_of xs (λ k s a. h (suc k) s (there a)))

module _ (d : ℕ) where
  -- behind one value they are in order among themselves
  value_smaller : (s : List ℕ) (more : List (List ℕ)) → All (Smaller s) more → All (Smaller (d ∷ s)) (map (λ (s : List ℕ). d ∷ s) more)
  value_smaller s [] h = tt
  value_smaller s (z ∷ more) h = (inr (refl, h.0), value_smaller s more h.1)

  -- and before all that have a greater value
  ordered_value : (more rest : List (List ℕ)) → Ordered more → Ordered rest → ((s : List ℕ) → All (Smaller (d ∷ s)) rest) → Ordered (map (λ (s : List ℕ). d ∷ s) more ++ rest)
  ordered_value [] rest h k less = k
  ordered_value (s ∷ more) rest h k less = (all_append (Smaller (d ∷ s)) (map (λ (s : List ℕ). d ∷ s) more) rest (value_smaller s more h.0) (less s), ordered_value more rest h.1 k less)

ordered_prefixed : (from n : ℕ) (more : List (List ℕ)) → Ordered more → Ordered (prefixed (up_from from n) more)
ordered_prefixed from zero more h = tt
ordered_prefixed from (suc n) more h =
    ordered_value from more (prefixed (up_from (suc from) n) more) h (ordered_prefixed (suc from) n more h) (λ s. all_of _ (λ k z a.
    let o = behind (up_from (suc from) n) more a in rw o.2 (inl (later (suc from) n o.3.1))))
  where
    later : (from n : ℕ) {k d : ℕ} → At (up_from from n) k d → from ≤ d
    later from zero a = absurd (at_none a)
    later from (suc n) here = omega arith
    later from (suc n) (there a) = omega (arith, later (suc from) n a)

pub all_ordered : (sizes : List ℕ) → Ordered (all_states sizes)
all_ordered [] = (tt, tt)
all_ordered (size ∷ sizes) = ordered_prefixed 0 size (all_states sizes) (all_ordered sizes)

-- ---- the first that passes a test is the smallest that does

module _ (test : List ℕ → Bool) {z : List ℕ} (passes : test z ≡ true) where
  find_ordered : (xs : List (List ℕ)) {k : ℕ} → Ordered xs → At xs k z → ((k : ℕ) (s : List ℕ) → At xs k s → test s ≡ true → (z ≡ s) ⊎ Smaller z s) → find test xs ≡ Some z
  find_ordered [] o a least = absurd (at_none a)
  find_ordered (s ∷ xs) o here least = rw (passes, find)
  find_ordered (s ∷ xs) o (there a) least = rw (fails (test s) refl, find) (find_ordered xs o.1 a (λ k s b. least (suc k) s (there b)))
    where
      -- an earlier one is smaller
      fails : (b : Bool) → test s ≡ b → test s ≡ false
      fails false e = e
      fails true e =
          let before = all_at (Smaller s) o.0 a in
          absurd (elim (least 0 s here e) [ inl same ↦ smaller_once s s (rw same at before) (rw same at before) | inr l ↦ smaller_once s z before l ])

  pub find_smallest : (sizes : List ℕ) → Inside sizes z → ((s : List ℕ) → Inside sizes s → test s ≡ true → (z ≡ s) ⊎ Smaller z s) → find test (all_states sizes) ≡ Some z
  find_smallest sizes i least = find_ordered (all_states sizes) (all_ordered sizes) (inside_all sizes z i).1 (λ k s a. least s (all_inside sizes a))
