-- Lists by number: what is made from each element, and a property of each.
use Rattle.std.specs.Prelude.{ℕ, zero, suc, ◌+◌, Bool, true, false, List, [], ◌∷◌, Option, None, Some}

-- the numbers from k on, n of them
abbrev pub up_from : ℕ → ℕ → List ℕ
up_from k zero = []
up_from k (suc n) = k ∷ up_from (suc k) n

-- the sizes of all elements added up
abbrev pub total : {A : Type 0} → (A → ℕ) → List A → ℕ
total size [] = 0
total size (x ∷ xs) = size x + total size xs

-- the first element that passes a test
abbrev pub find : {A : Type 0} → (A → Bool) → List A → Option A
find test [] = None
find test (x ∷ xs) = elim (test x) [ true ↦ Some x | false ↦ find test xs ]

-- P of each element
abbrev pub All : {A : Type 0} → (A → Type 0) → List A → Type 0
All P [] = Unit {0}
All P (x ∷ xs) = P x × All P xs

-- R of each two elements at the same index, in lists of one length
pub data Zip {A B : Type 0} (R : A → B → Type 0) : List A → List B → Type 0 where
  nil : Zip R [] []
  cons : {a : A} {b : B} {xs : List A} {ys : List B} → R a b → Zip R xs ys → Zip R (a ∷ xs) (b ∷ ys)

-- x stands at index k
pub data At {A : Type 0} : List A → ℕ → A → Type 0 where
  here : {x : A} {xs : List A} → At (x ∷ xs) zero x
  there : {x y : A} {xs : List A} {k : ℕ} → At xs k x → At (y ∷ xs) (suc k) x
