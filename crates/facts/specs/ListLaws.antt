-- Laws of lists by number and by index.
use Rattle.std.specs.Prelude.{◌≡◌, refl, Bool, true, false, ℕ, zero, suc, ◌+◌, ◌≤◌, ◌<◌, List, [], ◌∷◌, length, get_or, None, Some, slice_get}
use Rattle.std.proofs.Common.{ap, subst, arith}
use Rattle.std.proofs.lemmas.Option.{none-some, same_Some}
use Rattle.facts.specs.Lists.{up_from, total, find, All, Zip, nil, cons, At, here, there}

-- ---- numbers from k on

pub length_up_from : (k n : ℕ) → length (up_from k n) ≡ n
length_up_from k zero = refl
length_up_from k (suc n) = ap suc (length_up_from (suc k) n)

pub at_up_from : (k n j q : ℕ) → j < n → q ≡ k + j → At (up_from k n) j q
at_up_from k zero j q l e = absurd (omega arith)
at_up_from k (suc n) zero q l e = let z : k ≡ q = omega arith in rw z here
at_up_from k (suc n) (suc j) q l e = there (at_up_from (suc k) n j q (omega arith) (omega arith))

-- ---- an element at an index

module _ {A : Type 0} where
  pub look : {xs : List A} {k : ℕ} {x : A} → At xs k x → slice_get xs k ≡ Some x
  look here = refl
  look (there h) = look h

  pub found : (xs : List A) (k : ℕ) {x : A} → slice_get xs k ≡ Some x → At xs k x
  found [] k {x} h = absurd (none-some x h)
  found (y ∷ xs) zero {x} h = subst (λ (z : A). At (y ∷ xs) zero z) (same_Some y x h) here
  found (y ∷ xs) (suc k) h = there (found xs k h)

  -- there is no element past the last
  pub look_none : (xs : List A) (k : ℕ) → length xs ≤ k → slice_get xs k ≡ None
  look_none [] k l = refl
  look_none (x ∷ xs) zero l = absurd (omega arith)
  look_none (x ∷ xs) (suc k) l = look_none xs k (omega arith)

  pub at_none : {k : ℕ} {x : A} → At [] k x → ⊥
  at_none h = elim h [ ]

  pub at_length : {xs : List A} {k : ℕ} {x : A} → At xs k x → k < length xs
  at_length here = omega arith
  at_length (there h) = omega (arith, at_length h)

  pub at_get_d : (xs : List A) (k : ℕ) (d : A) → k < length xs → At xs k (get_or xs k d)
  at_get_d [] k d h = absurd (omega arith)
  at_get_d (y ∷ xs) zero d h = here
  at_get_d (y ∷ xs) (suc k) d h = there (at_get_d xs k d (omega arith))

  pub all_at : (P : A → Type 0) {xs : List A} {j : ℕ} {x : A} → All P xs → At xs j x → P x
  all_at P h here = h.0
  all_at P h (there a) = all_at P h.1 a

-- ---- the first element that passes a test

module _ {A : Type 0} (test : A → Bool) where
  pub find_inv : (P : A → Type 0) (xs : List A) {x : A} → All P xs → find test xs ≡ Some x → P x × (test x ≡ true)
  find_inv P [] {x} a h = absurd (none-some x h)
  find_inv P (y ∷ xs) {x} a h = go (test y) refl h (find_inv P xs a.1)
    where
      go : (b : Bool) → test y ≡ b → elim b [ true ↦ Some y | false ↦ find test xs ] ≡ Some x → (find test xs ≡ Some x → P x × (test x ≡ true)) → P x × (test x ≡ true)
      go true e h on = subst (λ (z : A). P z × (test z ≡ true)) (same_Some y x h) (a.0, e)
      go false e h on = on h

  pub find_none : (xs : List A) → All (λ (x : A). test x ≡ false) xs → find test xs ≡ None
  find_none [] a = refl
  find_none (y ∷ xs) a = rw (a.0, find) (find_none xs a.1)

-- ---- two lists side by side

module _ {A B : Type 0} {R : A → B → Type 0} where
  pub zip_length : {xs : List A} {ys : List B} → Zip R xs ys → length xs ≡ length ys
  zip_length nil = refl
  zip_length (cons r z) = ap suc (zip_length z)

  pub zip_all : (P : B → Type 0) → ((a : A) (b : B) → R a b → P b) → {xs : List A} {ys : List B} → Zip R xs ys → All P ys
  zip_all P h nil = tt
  zip_all P h (cons {a = a} {b = b} r z) = (h a b r, zip_all P h z)

  pub zip_map : (S : A → B → Type 0) → ((a : A) (b : B) → R a b → S a b) → {xs : List A} {ys : List B} → Zip R xs ys → Zip S xs ys
  zip_map S h nil = nil
  zip_map S h (cons {a = a} {b = b} r z) = cons (h a b r) (zip_map S h z)

pub all_zip : {X : Type 0} (P : X → Type 0) (k : ℕ) (xs : List X) → All P xs → Zip (λ (v : ℕ) x. P x) (up_from k (length xs)) xs
all_zip P k [] h = nil
all_zip P k (x ∷ xs) h = cons h.0 (all_zip P (suc k) xs h.1)

-- One element's size is at most the sum of all.
pub total_at : {A : Type 0} (size : A → ℕ) {xs : List A} {j : ℕ} {x : A} → At xs j x → size x ≤ total size xs
total_at size here = omega arith
total_at size (there h) = omega (arith, total_at size h)
