-- Laws of partial states over longer states, with one more fact, and with a row of zeros.
use Rattle.std.specs.Prelude.{◌≡◌, refl, ℕ, zero, suc, ◌+◌, ◌/◌, ◌%◌, ◌^◌, ◌≤◌, ◌<◌, Bool, true, ◌&&◌, List, [], ◌∷◌, ◌++◌, eqb, length, get_or, set}
use Rattle.std.proofs.Common.{sym, ap, ◌∙◌, subst, arith, length-append}
use Rattle.std.proofs.Math.Bool.{and-true, and_assoc}
use Rattle.std.proofs.Math.Seq.{append_snoc, get_or-append_seam}
use Rattle.facts.specs.Partial.{Partial, agrees, after, rest, above, holds, apply, empty}
use Rattle.facts.specs.PartialLaws.{Has, Below, holds_empty, apply_empty}
use Rattle.compilation.specs.Extend.{extend, clear}

-- ---- more variables

-- No facts are facts of variables below any number.
pub below_empty : (k : ℕ) → Below k empty
below_empty zero = refl
below_empty (suc k) = (tt, below_empty k)

-- Facts of variables below k are facts of variables below any larger number.
pub below_more : (k j : ℕ) (p : Partial) → Below k p → k ≤ j → Below j p
below_more zero j p h l = rw h (below_empty j)
below_more (suc k) zero p h l = absurd (omega arith)
below_more (suc k) (suc j) p h l = (h.0, below_more k j (above p) h.1 (omega arith))

-- ---- a longer state

-- Facts of the variables of s do not look at what comes after s.
pub holds_append : (s z : List ℕ) (p : Partial) → Below (length s) p → holds p (s ++ z) ≡ holds p s
holds_append [] z p h = rw h (holds_empty z)
holds_append (x ∷ s) z p h = ap (λ (b : Bool). agrees (p.map % 2) p.values x && b) (holds_append s z (above p) h.1)

-- Facts of the variables of s do not change what comes after s.
pub apply_append : (s z : List ℕ) (p : Partial) → Below (length s) p → apply p (s ++ z) ≡ apply p s ++ z
apply_append [] z p h = rw h (apply_empty z)
apply_append (x ∷ s) z p h = ap (λ (r : List ℕ). after (p.map % 2) p.values x ∷ r) (apply_append s z (above p) h.1)

-- ---- one more fact

-- Bit 0 does not change when a higher bit is added.
pub extend_bit : (m v : ℕ) → (m + 2 ^ suc v) % 2 ≡ m % 2
extend_bit m v = omega arith

-- The other bits, moved down by one, have the new bit moved down by one.
extend_half : (m v : ℕ) → (m + 2 ^ suc v) / 2 ≡ m / 2 + 2 ^ v
extend_half m v = omega arith

module _ (x : ℕ) where
  -- One more value behind the others: the first variable still has its own.
  has_snoc : (b : ℕ) (values : List ℕ) → Has b values → Has b (values ++ (x ∷ []))
  has_snoc zero values h = tt
  has_snoc (suc b) [] h = absurd h
  has_snoc (suc b) (v ∷ values) h = tt

  -- One more value behind the others is one more behind what is left of them.
  rest_snoc : (b : ℕ) (values : List ℕ) → Has b values → rest b (values ++ (x ∷ [])) ≡ rest b values ++ (x ∷ [])
  rest_snoc zero values h = refl
  rest_snoc (suc b) [] h = absurd h
  rest_snoc (suc b) (v ∷ values) h = refl

  -- One more value behind the others: the first variable agrees as before.
  agrees_snoc : (b : ℕ) (values : List ℕ) (y : ℕ) → Has b values → agrees b (values ++ (x ∷ [])) y ≡ agrees b values y
  agrees_snoc zero values y h = refl
  agrees_snoc (suc b) [] y h = absurd h
  agrees_snoc (suc b) (v ∷ values) y h = refl

  -- One more value behind the others: the first variable is set as before.
  after_snoc : (b : ℕ) (values : List ℕ) (y : ℕ) → Has b values → after b (values ++ (x ∷ [])) y ≡ after b values y
  after_snoc zero values y h = refl
  after_snoc (suc b) [] y h = absurd h
  after_snoc (suc b) (v ∷ values) y h = refl

  -- Past variable 0 the extended facts are the old ones past variable 0, extended.
  pub above_extend : (p : Partial) (v : ℕ) → Below (suc v) p → above (extend p (suc v) x) ≡ extend (above p) v x
  above_extend p v h = rw (extend_half p.map v, extend_bit p.map v, rest_snoc (p.map % 2) p.values h.0)

  -- With a fact of variable v above them, the facts are of variables below v + 1.
  pub below_extend : (v : ℕ) (p : Partial) → Below v p → Below (suc v) (extend p v x)
  below_extend zero p h = rw h (tt, refl)
  below_extend (suc v) p h = (rw (extend_bit p.map v) (has_snoc (p.map % 2) p.values h.0), subst (λ (q : Partial). Below (suc v) q) (sym (above_extend p v h)) (below_extend v (above p) h.1))

  -- The extended facts hold where the old ones hold and variable v has the value.
  pub holds_extend : (v : ℕ) (p : Partial) (s : List ℕ) → Below v p → v < length s → holds (extend p v x) s ≡ (holds p s && eqb x (get_or s v 0))
  holds_extend v p [] h l = absurd (omega arith)
  holds_extend zero p (y ∷ s) h l = rw (h, holds_empty s) (and-true (eqb x y))
  holds_extend (suc v) p (y ∷ s) h l =
      rw (above_extend p v h, extend_bit p.map v, agrees_snoc (p.map % 2) p.values y h.0, holds_extend v (above p) s h.1 (omega arith)) (simp and_assoc)

  -- The extended facts set what the old ones set, and variable v.
  pub apply_extend : (v : ℕ) (p : Partial) (s : List ℕ) → Below v p → v < length s → apply (extend p v x) s ≡ set (apply p s) v x
  apply_extend v p [] h l = absurd (omega arith)
  apply_extend zero p (y ∷ s) h l = rw h
  apply_extend (suc v) p (y ∷ s) h l =
      rw (above_extend p v h, extend_bit p.map v, after_snoc (p.map % 2) p.values y h.0, apply_extend v (above p) s h.1 (omega arith))

-- ---- a row of zeros above the variables of s

-- Each value is 0.
abbrev pub all_zero : List ℕ → Bool
all_zero [] = true
all_zero (y ∷ z) = eqb 0 y && all_zero z

-- The cleared facts hold where the old ones hold and each further variable has the value 0.
pub clear_holds : (z s : List ℕ) (p : Partial) (n : ℕ) → n ≡ length s → Below n p → holds (clear p n (length z)) (s ++ z) ≡ (holds p s && all_zero z)
clear_holds [] s p n e h = holds_append s [] p (rw e at h) ∙ sym (and-true (holds p s))
clear_holds (y ∷ z) s p n e h =
    let more : suc n ≡ length (s ++ (y ∷ [])) = simp (length-append, e) (omega arith) in
    let one : holds (extend p n 0) (s ++ (y ∷ [])) ≡ (holds p s && eqb 0 y) =
    rw (holds_extend 0 n p (s ++ (y ∷ [])) h (omega arith), holds_append s (y ∷ []) p (rw e at h), e, get_or-append_seam s y [] 0) in
    rw (← append_snoc s y z, clear_holds z (s ++ (y ∷ [])) (extend p n 0) (suc n) more (below_extend 0 n p h), one) (simp and_assoc)
