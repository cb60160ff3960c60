-- Laws of fields one after the other, one for each element of a list.
use Rattle.std.specs.Prelude.{◌≡◌, refl, ℕ, zero, suc, ◌+◌, ◌*◌, ◌≤◌, ◌<◌, List, [], ◌∷◌, ◌++◌, length, get_or, drop}
use Rattle.std.proofs.Common.{sym, ap, ap₂, ◌∙◌, subst, subst₂, arith, drop_of_length-le, add-one, drop-cons}
use Rattle.facts.specs.Read.{Read, accepted, refused, ◌>>=◌}
use Rattle.facts.specs.ReadLaws.{through, agree, bind_assoc, value_of_lem, next_of_lem}
use Rattle.facts.specs.Lists.{up_from, Zip, nil, cons, At, here, there}
use Rattle.facts.specs.ListLaws.{zip_length, at_none}
use Rattle.facts.specs.Fields.{each, next_of}

-- ---- one item and then the others

module _ {A X : Type 0} (read : A → ℕ → Read (X × ℕ)) where
  -- the law of a loop that goes past the items
  pub next_each : (a : A) (items : List A) (at : ℕ) → next_of (each read (a ∷ items) at) ≡ ◌>>=◌ (next_of (read a at)) (λ at. next_of (each read items at))
  next_each a items at = go (read a at)
    where
      last : (x : X) (r : Read (List X × ℕ)) → next_of (◌>>=◌ r (λ (p : List X × ℕ). accepted (x ∷ p.0, p.1))) ≡ next_of r
      last x (accepted p) = refl
      last x (refused n p) = refl

      go : (r : Read (X × ℕ)) → next_of (◌>>=◌ r (λ (p : X × ℕ). ◌>>=◌ (each read items p.1) (λ (q : List X × ℕ). accepted (p.0 ∷ q.0, q.1)))) ≡ ◌>>=◌ (next_of r) (λ at. next_of (each read items at))
      go (accepted p) = last p.0 (each read items p.1)
      go (refused n p) = refl

  pub record Split (a : A) (items : List A) (at : ℕ) (x : X) (xs : List X) (e : ℕ) : Type 0 where
    pub next : ℕ
    pub first : read a at ≡ accepted (x, next)
    pub others : each read items next ≡ accepted (xs, e)

  pub each_split : (a : A) (items : List A) (at : ℕ) (x : X) (xs : List X) (e : ℕ) → each read (a ∷ items) at ≡ accepted (x ∷ xs, e) → Split a items at x xs e
  each_split a items at x xs e g =
      let p = through (read a at) g in
      let q = through (each read items p.got.1) p.then in
      let list = value_of_lem q.then in
      let head : p.got.0 ≡ x = cc in
      let tail : q.got.0 ≡ xs = cc in
      record {
        next = p.got.1;
        first = p.first ∙ ap (λ (y : X). accepted (y, p.got.1)) head;
        others = q.first ∙ ap₂ (λ (ys : List X) (n : ℕ). accepted (ys, n)) tail (next_of_lem q.then);
      }

  -- a relation of each item to what was read for it
  pub each_zip : (R : A → X → Type 0) → ((a : A) (x : X) (at e : ℕ) → read a at ≡ accepted (x, e) → R a x)
      → (items : List A) (at : ℕ) {xs : List X} {e : ℕ} → each read items at ≡ accepted (xs, e) → Zip R items xs
  each_zip R h [] at g = rw (← value_of_lem g) nil
  each_zip R h (a ∷ items) at g =
      let o = through (read a at) g in
      let p = through (each read items o.got.1) o.then in
      rw (← value_of_lem p.then) (cons (h a o.got.0 at o.got.1 o.first) (each_zip R h items o.got.1 p.first))

  pub each_length : (items : List A) (at : ℕ) {xs : List X} {e : ℕ} → each read items at ≡ accepted (xs, e) → length items ≡ length xs
  each_length items at g = zip_length (each_zip (λ a x. Unit {0}) (λ a x at e h. tt) items at g)

  -- items of w bytes each
  pub each_next : (w : ℕ) → ((a : A) (x : X) (at e : ℕ) → read a at ≡ accepted (x, e) → e ≡ at + w)
      → (items : List A) (at : ℕ) {xs : List X} {e : ℕ} → each read items at ≡ accepted (xs, e) → e ≡ at + w * length items
  each_next w h [] at g = omega (arith, next_of_lem g)
  each_next w h (a ∷ items) at g =
      let o = through (read a at) g in
      let p = through (each read items o.got.1) o.then in
      omega (arith, h a o.got.0 at o.got.1 o.first, each_next w h items o.got.1 p.first, next_of_lem p.then)

-- a loop over the items, at the item number i
module _ {A X : Type 0} (read : A → ℕ → Read (X × ℕ)) (items : List A) (d : A) (i at : ℕ) where
  turn : i < length items → next_of (each read (drop i items) at) ≡ ◌>>=◌ (next_of (read (get_or items i d) at)) (λ at. next_of (each read (drop (i + 1) items) at))
  turn l = rw (drop-cons items i d l, add-one i) (next_each read (get_or items i d) (drop (suc i) items) at)

  pub each_on : {q : ℕ} → i < length items → next_of (read (get_or items i d) at) ≡ accepted q → next_of (each read (drop i items) at) ≡ next_of (each read (drop (i + 1) items) q)
  each_on l h = turn l ∙ rw h

  pub each_stops : {n p : ℕ} → i < length items → next_of (read (get_or items i d) at) ≡ refused n p → next_of (each read (drop i items) at) ≡ refused n p
  each_stops l h = turn l ∙ rw h

  pub each_done : length items ≤ i → next_of (each read (drop i items) at) ≡ accepted at
  each_done l = rw (drop_of_length-le items l)

-- ---- items that are numbers from k on: how far the first j of them go, and what lies there

up_from_snoc : (k n : ℕ) → up_from k (suc n) ≡ up_from k n ++ ((k + n) ∷ [])
up_from_snoc k zero = ap (λ (j : ℕ). j ∷ []) (omega arith)
up_from_snoc k (suc n) = ap (λ (xs : List ℕ). k ∷ xs) (up_from_snoc (suc k) n ∙ ap (λ (j : ℕ). up_from (suc k) n ++ (j ∷ [])) (omega arith))

module _ {X : Type 0} (read : ℕ → ℕ → Read (X × ℕ)) where
  next_append : (xs ys : List ℕ) (at : ℕ) → next_of (each read (xs ++ ys) at) ≡ ◌>>=◌ (next_of (each read xs at)) (λ at. next_of (each read ys at))
  next_append [] ys at = refl
  next_append (x ∷ xs) ys at =
      next_each read x (xs ++ ys) at
      ∙ agree (next_of (read x at)) _ _ (λ q h. next_append xs ys q)
      ∙ sym (bind_assoc (next_of (read x at)) (λ q. next_of (each read xs q)) (λ q. next_of (each read ys q)))
      ∙ ap (λ (r : Read ℕ). ◌>>=◌ r (λ at. next_of (each read ys at))) (sym (next_each read x xs at))

  -- one item more
  pub next_snoc : (k n at : ℕ) {o q : ℕ} → next_of (each read (up_from k n) at) ≡ accepted o → next_of (read (k + n) o) ≡ accepted q → next_of (each read (up_from k (suc n)) at) ≡ accepted q
  next_snoc k n at {o} h g = ap (λ (xs : List ℕ). next_of (each read xs at)) (up_from_snoc k n) ∙ next_append (up_from k n) ((k + n) ∷ []) at ∙ rw h (next_each read (k + n) [] o ∙ rw g)

  -- item number j lies where the j items before it end
  pub each_at : (k n at : ℕ) {xs : List X} {e j o : ℕ} {x : X} → each read (up_from k n) at ≡ accepted (xs, e) → At xs j x → next_of (each read (up_from k j) at) ≡ accepted o
      → (next : ℕ) × (read (k + j) o ≡ accepted (x, next))
  each_at k zero at {j = j} {x = x} g a h = absurd (at_none (subst (λ (xs : List X). At xs j x) (sym (value_of_lem g)) a))
  each_at k (suc n) at {e = e} {o = o} g (here {x = x} {xs = xs}) h =
      let s = each_split read k (up_from (suc k) n) at x xs e g in
      let same : at ≡ o = cc in
      (s.next, subst₂ (λ (i p : ℕ). read i p ≡ accepted (x, s.next)) (omega arith) same s.first)
  each_at k (suc n) at {e = e} {o = o} g (there {x = x} {y = y} {xs = xs} {k = j} a) h =
      let s = each_split read k (up_from (suc k) n) at y xs e g in
      let rest : next_of (each read (up_from (suc k) j) s.next) ≡ accepted o = sym (next_each read k (up_from (suc k) j) at ∙ rw s.first) ∙ h in
      let r = each_at (suc k) n s.next s.others a rest in
      (r.0, subst (λ (i : ℕ). read i o ≡ accepted (x, r.0)) (omega arith) r.1)
