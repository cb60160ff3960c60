-- Laws of the elements of a list that pass a test, and of the least of what they cost.
use Rattle.std.specs.Prelude.{◌≡◌, refl, Bool, true, false, ◌&&◌, List, [], ◌∷◌, ◌++◌, map, ℕ, suc, ◌≤◌, ◌<◌, min, length}
use Rattle.std.proofs.Common.{ap, ap₂, ◌∙◌, arith}
use Rattle.std.proofs.lemmas.Bool.{false≢true}
use Rattle.std.proofs.Math.Decide.{dec_le}
use Rattle.facts.specs.Lists.{At, here, there}
use Rattle.facts.specs.ListLaws.{at_none}
use Rattle.relaxation.specs.Least.{least_of, prefixed}
use Rattle.relaxation.specs.Relaxed.{passing}

-- the element is in the list
abbrev pub In : {A : Type 0} → List A → A → Type 0
In xs x = (k : ℕ) × At xs k x

-- in what follows one more
pub further : {A : Type 0} {xs : List A} {x y : A} → In xs x → In (y ∷ xs) x
further o = (suc o.0, there o.1)

-- ---- by what the test says of the first

-- the first, by its test
abbrev pub firstly : {A : Type 0} → Bool → A → List A → List A
firstly b x more = elim b [ true ↦ x ∷ more | false ↦ more ]

firstly_append : {A : Type 0} (b : Bool) (x : A) (whole front back : List A) → whole ≡ front ++ back → firstly b x whole ≡ firstly b x front ++ back
firstly_append true x whole front back e = ap (λ (l : List _). x ∷ l) e
firstly_append false x whole front back e = e

passing_append : {A : Type 0} (test : A → Bool) (xs ys : List A) → passing test (xs ++ ys) ≡ passing test xs ++ passing test ys
passing_append test [] ys = refl
passing_append test (x ∷ xs) ys = firstly_append (test x) x (passing test (xs ++ ys)) (passing test xs) (passing test ys) (passing_append test xs ys)

-- all pass
pub passing_all : {A : Type 0} (xs : List A) → passing (λ (x : A). true) xs ≡ xs
passing_all [] = refl
passing_all (x ∷ xs) = ap (λ (l : List _). x ∷ l) (passing_all xs)

-- tests that agree
pub passing_same : {A : Type 0} (f g : A → Bool) → ((x : A) → f x ≡ g x) → (xs : List A) → passing f xs ≡ passing g xs
passing_same f g h [] = refl
passing_same f g h (x ∷ xs) = ap₂ (λ (b : Bool) (l : List _). firstly b x l) (h x) (passing_same f g h xs)

-- ---- states with a value before them

-- all, or none
abbrev kept : {A : Type 0} → Bool → List A → List A
kept b xs = elim b [ true ↦ xs | false ↦ [] ]

-- one more state
kept_more : (b c : Bool) (d : ℕ) (s : List ℕ) (more : List (List ℕ)) → firstly (b && c) (d ∷ s) (kept b (map (λ (s : List ℕ). d ∷ s) more)) ≡ kept b (map (λ (s : List ℕ). d ∷ s) (firstly c s more))
kept_more true true d s more = refl
kept_more true false d s more = refl
kept_more false c d s more = refl

kept_none : (b : Bool) → ◌≡◌ {A = List (List ℕ)} [] (kept b [])
kept_none true = refl
kept_none false = refl

kept_prefixed : (b : Bool) (d : ℕ) (values : List ℕ) (more : List (List ℕ)) → kept b (map (λ (s : List ℕ). d ∷ s) more) ++ prefixed values more ≡ prefixed (firstly b d values) more
kept_prefixed true d values more = refl
kept_prefixed false d values more = refl

-- the whole test is one of the first value and one of the rest
module _ (whole : List ℕ → Bool) (first : ℕ → Bool) (rest : List ℕ → Bool) (both : (d : ℕ) (s : List ℕ) → whole (d ∷ s) ≡ (first d && rest s)) where
  -- with the value d before them
  passing_value : (d : ℕ) (more : List (List ℕ)) → passing whole (map (λ (s : List ℕ). d ∷ s) more) ≡ kept (first d) (map (λ (s : List ℕ). d ∷ s) (passing rest more))
  passing_value d [] = kept_none (first d)
  passing_value d (s ∷ more) =
      ap₂ (λ (c : Bool) (l : List (List ℕ)). firstly c (d ∷ s) l) (both d s) (passing_value d more) ∙ kept_more (first d) (rest s) d s (passing rest more)

  pub passing_prefixed : (values : List ℕ) (more : List (List ℕ)) → passing whole (prefixed values more) ≡ prefixed (passing first values) (passing rest more)
  passing_prefixed [] more = refl
  passing_prefixed (d ∷ values) more =
      passing_append whole (map (λ (s : List ℕ). d ∷ s) more) (prefixed values more)
      ∙ ap₂ ◌++◌ (passing_value d more) (passing_prefixed values more)
      ∙ kept_prefixed (first d) d (passing first values) (passing rest more)

-- ---- an element passes exactly if it is one of those that do

module _ {A : Type 0} (test : A → Bool) where
  further_on : {xs : List A} {x : A} (b : Bool) (y : A) → In xs x → In (firstly b y xs) x
  further_on true y o = further o
  further_on false y o = o

  first_in : (b : Bool) (x : A) (xs : List A) → b ≡ true → In (firstly b x xs) x
  first_in true x xs h = (0, here)
  first_in false x xs h = absurd (false≢true h)

  pub in_passing : {xs : List A} {k : ℕ} {x : A} → At xs k x → test x ≡ true → In (passing test xs) x
  in_passing (here {x = x} {xs = xs}) h = first_in (test x) x (passing test xs) h
  in_passing (there {y = y} a) h = further_on (test y) y (in_passing a h)

  one_more : (y : A) (xs left : List A) (b : Bool) → test y ≡ b → ((k : ℕ) (x : A) → At left k x → In xs x × (test x ≡ true)) → {k : ℕ} {x : A} → At (firstly b y left) k x
      → In (y ∷ xs) x × (test x ≡ true)
  one_more y xs left true e more here = ((0, here), e)
  one_more y xs left true e more (there {x = x} {k = k} a) = let o = more k x a in (further o.0, o.1)
  one_more y xs left false e more {k} {x} a = let o = more k x a in (further o.0, o.1)

  pub passing_in : (xs : List A) {k : ℕ} {x : A} → At (passing test xs) k x → In xs x × (test x ≡ true)
  passing_in [] a = absurd (at_none a)
  passing_in (y ∷ xs) a = one_more y xs (passing test xs) (test y) refl (λ k x b. passing_in xs b) a

-- ---- the least

module _ {A : Type 0} (f : A → ℕ) where
  -- it is at most each
  pub least_most : {xs : List A} {k : ℕ} {x : A} → At xs k x → least_of min 0 (map f xs) ≤ f x
  least_most {xs = []} a = absurd (at_none a)
  least_most {xs = x ∷ []} here = omega arith
  least_most {xs = x ∷ y ∷ xs} here = omega arith
  least_most {xs = y ∷ []} (there a) = absurd (at_none a)
  least_most {xs = y ∷ z ∷ xs} (there a) = omega (arith, least_most a)

  -- and one of them, if there is one
  abbrev pub Attained : List A → Type 0
  Attained xs = (x : A) × In xs x × (f x ≡ least_of min 0 (map f xs))

  lesser_attained : (x y : A) (xs : List A) → Attained (y ∷ xs) → Dec (f x ≤ least_of min 0 (map f (y ∷ xs))) → Attained (x ∷ y ∷ xs)
  lesser_attained x y xs a (yes l) = (x, (0, here), omega arith)
  lesser_attained x y xs a (no l) = (a.0, further a.1, omega (arith, a.2, l))

  pub least_attained : (xs : List A) → 0 < length xs → Attained xs
  least_attained [] l = absurd (omega arith)
  least_attained (x ∷ []) l = (x, (0, here), refl)
  least_attained (x ∷ y ∷ xs) l = lesser_attained x y xs (least_attained (y ∷ xs) (omega arith)) (dec_le (f x) (least_of min 0 (map f (y ∷ xs))))
