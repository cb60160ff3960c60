-- Laws of lists by index: an element of joined lists, and of lists made from numbered elements.
use Rattle.std.specs.Prelude.{◌≡◌, refl, ◌⊎◌, ℕ, suc, ◌+◌, ◌≤◌, List, [], ◌∷◌, ◌++◌, length, take}
use Rattle.std.proofs.Common.{sym, ap, ◌∙◌, inl, inr, suc-add, zero-add, arith}
use Rattle.facts.specs.Lists.{total, At, here, there}
use Rattle.facts.specs.ListLaws.{look, at_none}
use Rattle.compilation.specs.Compile.{map_from, flat}

pub total_take : {A : Type 0} (size : A → ℕ) {xs : List A} {j : ℕ} {x : A} → At xs j x → total size (take j xs) + size x ≤ total size xs
total_take size here = omega arith
total_take size (there h) = omega (arith, total_take size h)

-- ---- joined lists

module _ {A : Type 0} where
  pub at_same : {xs : List A} {j k : ℕ} {x y : A} → At xs j x → At xs k y → j ≡ k → x ≡ y
  at_same h g e = cc (look h, look g)

  pub at_left : {xs : List A} {k : ℕ} {x : A} (ys : List A) → At xs k x → At (xs ++ ys) k x
  at_left ys here = here
  at_left ys (there h) = there (at_left ys h)

  pub at_right : (xs : List A) {ys : List A} {k r : ℕ} {x : A} → At ys k x → r ≡ length xs + k → At (xs ++ ys) r x
  at_right [] {k = k} h e = rw (e ∙ zero-add k) h
  at_right (y ∷ xs) {k = k} h e = rw (e ∙ suc-add (length xs) k) (there (at_right xs h refl))

  -- an element of joined lists is one of the first or one of the second
  pub at_split : (xs ys : List A) {k : ℕ} {x : A} → At (xs ++ ys) k x → At xs k x ⊎ ((j : ℕ) × (k ≡ length xs + j) × At ys j x)
  at_split [] ys {k} h = inr (k, sym (zero-add k), h)
  at_split (y ∷ xs) ys here = inl here
  at_split (y ∷ xs) ys (there h) = elim (at_split xs ys h) [ inl g ↦ inl (there g) | inr g ↦ inr (g.0, omega arith, g.2) ]

-- ---- an element for each numbered element

module _ {A B : Type 0} (f : ℕ → A → B) where
  pub map_from_at : (k q : ℕ) {xs : List A} {j : ℕ} {x : A} → At xs j x → q ≡ k + j → At (map_from f k xs) j (f q x)
  map_from_at k q here e = let n : k ≡ q = omega arith in rw n here
  map_from_at k q (there h) e = there (map_from_at (suc k) q h (omega arith))

  pub map_from_inv : (k q : ℕ) (xs : List A) {j : ℕ} {b : B} → At (map_from f k xs) j b → q ≡ k + j → (x : A) × At xs j x × (f q x ≡ b)
  map_from_inv k q [] h e = absurd (at_none h)
  map_from_inv k q (x ∷ xs) here e = (x, here, ap (λ (n : ℕ). f n x) (omega arith))
  map_from_inv k q (x ∷ xs) (there h) e = let o = map_from_inv (suc k) q xs h (omega arith) in (o.0, there o.1, o.2)

-- ---- a list for each numbered element

module _ {A B : Type 0} (f : ℕ → A → List B) (size : A → ℕ) (len : (k : ℕ) (x : A) → length (f k x) ≡ size x) where
  -- what f gives for the element j is found behind what it gives for those before it
  pub flat_at : (k q r : ℕ) {xs : List A} {j : ℕ} {x : A} {i : ℕ} {b : B} → At xs j x → At (f q x) i b → q ≡ k + j → r ≡ total size (take j xs) + i → At (flat f k xs) r b
  flat_at k q r {i = i} (here {x = y} {xs = ys}) g n e =
      let n' : k ≡ q = omega arith in
      let e' : r ≡ i = omega arith in
      rw (n', e') (at_left (flat f (suc q) ys) g)
  flat_at k q r {i = i} (there {y = y} {xs = ys} {k = j} h) g n e =
      at_right (f k y) (flat_at (suc k) q (total size (take j ys) + i) h g (omega arith) refl) (omega (arith, len k y))

  -- b, at index r, is at index i of what f gives for x, which is at index j and has the number q
  pub record Found (k : ℕ) (xs : List A) (r : ℕ) (b : B) : Type 0 where
    pub j : ℕ
    pub q : ℕ
    pub x : A
    pub i : ℕ
    pub element : At xs j x
    pub inner : At (f q x) i b
    pub number : q ≡ k + j
    pub place : r ≡ total size (take j xs) + i

  pub flat_inv : (k : ℕ) (xs : List A) {r : ℕ} {b : B} → At (flat f k xs) r b → Found k xs r b
  flat_inv k [] h = absurd (at_none h)
  flat_inv k (y ∷ xs) {r} h =
      elim (at_split (f k y) (flat f (suc k) xs) h) [
        | inl g ↦ record { j = 0; q = k; x = y; i = r; element = here; inner = g; number = omega arith; place = omega arith }
        | inr g ↦
            let o = flat_inv (suc k) xs g.2 in
            record { j = suc o.j; q = o.q; x = o.x; i = o.i; element = there o.element; inner = o.inner; number = omega (arith, o.number); place = omega (arith, o.place, g.1, len k y) }
      ]
