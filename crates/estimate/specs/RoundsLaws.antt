-- Laws of rounds: they lead to numbers that a further round does not change, and to no others.
use Rattle.std.specs.Prelude.{ℕ, zero, suc, ◌≤◌, ◌<◌, ◌≡◌, refl, Bool, true, false, ◌&&◌, ◌≢◌, List, [], ◌∷◌, ltb, length, get_or}
use Rattle.std.proofs.Common.{sym, ap, ap₂, ◌∙◌, true≢false, le_refl, arith, ltb-true, ltb-false}
use Rattle.std.proofs.lemmas.Bool.{false≢true}
use Rattle.facts.specs.Lists.{total, All, Zip, nil, cons}
use Rattle.estimate.specs.Number.{Number, exact, never, lesser, AtMost, same, WithinCap, rank}
use Rattle.estimate.specs.NumberLaws.{at_most_refl, lesser_never, lesser_zero, lesser_at_most, lesser_within, rank_at_most, rank_injective, same_refl, same_true}
use Rattle.estimate.specs.Rounds.{lowered, round_of, same_all, settle, settled, Leads, stay, go_on, Lowering}

-- ---- the test for the same numbers

same_all_refl : (xs : List Number) → same_all xs xs ≡ true
same_all_refl [] = refl
same_all_refl (x ∷ xs) = ap₂ ◌&&◌ (same_refl x) (same_all_refl xs)

pub same_all_true : (xs ys : List Number) → same_all xs ys ≡ true → xs ≡ ys
same_all_true [] [] h = refl
same_all_true [] (y ∷ ys) h = absurd (false≢true h)
same_all_true (x ∷ xs) [] h = absurd (false≢true h)
same_all_true (x ∷ xs) (y ∷ ys) h = go (same x y) refl h (same_all_true xs ys)
  where
    go : (t : Bool) → same x y ≡ t → (t && same_all xs ys) ≡ true → (same_all xs ys ≡ true → xs ≡ ys) → x ∷ xs ≡ y ∷ ys
    go true e k rest = ap₂ ◌∷◌ (same_true x y e) (rest k)
    go false e k rest = absurd (false≢true k)

pub same_all_false : (xs ys : List Number) → same_all xs ys ≡ false → xs ≢ ys
same_all_false xs ys h e = true≢false (sym (same_all_refl xs) ∙ ap (same_all xs) e ∙ h)

-- ---- the sum of all ranks: it falls with the numbers, and is the same only for the same numbers

total_at_most : {xs ys : List Number} → All WithinCap xs → All WithinCap ys → Zip AtMost xs ys → total rank xs ≤ total rank ys
total_at_most h k nil = le_refl 0
total_at_most h k (cons r z) = omega (arith, rank_at_most h.0 k.0 r, total_at_most h.1 k.1 z)

total_same : {xs ys : List Number} → All WithinCap xs → All WithinCap ys → Zip AtMost xs ys → total rank ys ≤ total rank xs → xs ≡ ys
total_same h k nil l = refl
total_same h k (cons r z) l =
    let first = rank_at_most h.0 k.0 r in
    let rest = total_at_most h.1 k.1 z in
    ap₂ ◌∷◌ (rank_injective h.0 k.0 (omega arith)) (total_same h.1 k.1 z (omega arith))

-- ---- where rounds lead

module _ {round : List Number → List Number} where
  -- from numbers that a round does not change, to nothing else
  leads_nowhere : {numbers later : List Number} → round numbers ≡ numbers → Leads round numbers later → later ≡ numbers
  leads_nowhere still stay = refl
  leads_nowhere still (go_on l) = leads_nowhere (ap round still) l ∙ still

  -- to one list at most that a round does not change
  pub leads_one : {numbers xs ys : List Number} → Leads round numbers xs → round xs ≡ xs → Leads round numbers ys → round ys ≡ ys → xs ≡ ys
  leads_one stay still l also = sym (leads_nowhere still l)
  leads_one (go_on k) still stay also = leads_nowhere also (go_on k)
  leads_one (go_on k) still (go_on l) also = leads_one k still l also

-- ---- rounds until one changes nothing

module _ (round : List Number → List Number) where
  -- one round more: it changes nothing, or the others follow
  pub by_change : (P : List Number → Type 0) (n : ℕ) (numbers : List Number) → (round numbers ≡ numbers → P numbers)
      → (round numbers ≢ numbers → P (settle round n (round numbers))) → P (settle round (suc n) numbers)
  by_change P n numbers still changed = go (same_all numbers (round numbers)) refl
    where
      go : (t : Bool) → same_all numbers (round numbers) ≡ t → P (elim t [ true ↦ numbers | false ↦ settle round n (round numbers) ])
      go true e = still (sym (same_all_true numbers (round numbers) e))
      go false e = changed (λ same. same_all_false numbers (round numbers) e (sym same))

  settle_leads : (n : ℕ) (numbers : List Number) → Leads round numbers (settle round n numbers)
  settle_leads zero numbers = stay
  settle_leads (suc n) numbers = by_change (Leads round numbers) n numbers (λ e. stay) (λ e. go_on (settle_leads n (round numbers)))

  -- what rounds settle on is had by rounds
  pub settled_leads : (numbers : List Number) → Leads round numbers (settled round numbers)
  unfolding settled
  settled_leads numbers = settle_leads (total rank numbers) numbers

  -- the end of a loop: a round that changes nothing
  pub settled_still : (numbers : List Number) → round numbers ≡ numbers → settled round numbers ≡ numbers
  settled_still numbers still = leads_nowhere still (settled_leads numbers)

-- rounds that are the same wherever rounds lead settle on the same
module _ (P : List Number → Type 0) {round other : List Number → List Number} (agree : (numbers : List Number) → P numbers → round numbers ≡ other numbers)
    (keeps : (numbers : List Number) → P numbers → P (round numbers)) where
  settle_agrees : (n : ℕ) (numbers : List Number) → P numbers → settle round n numbers ≡ settle other n numbers
  settle_agrees zero numbers h = refl
  settle_agrees (suc n) numbers h =
      ap (λ (rest : List Number). elim (same_all numbers (round numbers)) [ true ↦ numbers | false ↦ rest ]) (settle_agrees n (round numbers) (keeps numbers h))
      ∙ ap (λ (new : List Number). elim (same_all numbers new) [ true ↦ numbers | false ↦ settle other n new ]) (agree numbers h)

  pub settled_agrees : (numbers : List Number) → P numbers → settled round numbers ≡ settled other numbers
  unfolding settled
  settled_agrees numbers h = settle_agrees (total rank numbers) numbers h

module _ {round : List Number → List Number} (lowering : Lowering round) where
  -- a round that does not lower the sum of all ranks changes nothing
  unchanged : (numbers : List Number) → All WithinCap numbers → total rank numbers ≤ total rank (round numbers) → round numbers ≡ numbers
  unchanged numbers h l = total_same (lowering.within numbers h) h (lowering.raises_none numbers h) l

  -- the measure of a loop: any other lowers it
  pub round_falls : (numbers : List Number) → All WithinCap numbers → round numbers ≢ numbers → total rank (round numbers) < total rank numbers
  round_falls numbers h changed = go (ltb (total rank (round numbers)) (total rank numbers)) refl
    where
      go : (t : Bool) → ltb (total rank (round numbers)) (total rank numbers) ≡ t → total rank (round numbers) < total rank numbers
      go true e = ltb-true _ _ e
      go false e = absurd (changed (unchanged numbers h (ltb-false _ _ e)))

  settle_fixed : (n : ℕ) (numbers : List Number) → All WithinCap numbers → total rank numbers ≤ n → round (settle round n numbers) ≡ settle round n numbers
  settle_fixed zero numbers h l = unchanged numbers h (omega arith)
  settle_fixed (suc n) numbers h l =
      by_change round (λ xs. round xs ≡ xs) n numbers (λ still. still)
      (λ changed. settle_fixed n (round numbers) (lowering.within numbers h) (omega (arith, round_falls numbers h changed)))

  -- and a further round does not change it
  pub settled_fixed : (numbers : List Number) → All WithinCap numbers → round (settled round numbers) ≡ settled round numbers
  unfolding settled
  settled_fixed numbers h = settle_fixed (total rank numbers) numbers h (le_refl _)

  -- a turn of a loop: one round
  pub settled_on : (numbers : List Number) → All WithinCap numbers → settled round numbers ≡ settled round (round numbers)
  settled_on numbers h =
      leads_one (settled_leads round numbers) (settled_fixed numbers h)
      (go_on (settled_leads round (round numbers))) (settled_fixed (round numbers) (lowering.within numbers h))

-- ---- rounds of offers

pub lowered_length : (numbers offers : List Number) → length (lowered numbers offers) ≡ length numbers
lowered_length [] offers = refl
lowered_length (x ∷ numbers) [] = ap suc (lowered_length numbers [])
lowered_length (x ∷ numbers) (y ∷ offers) = ap suc (lowered_length numbers offers)

-- each number is the lesser of the old one and the offer
pub lowered_at : (numbers offers : List Number) (k : ℕ) → length offers ≤ length numbers → get_or (lowered numbers offers) k never ≡ lesser (get_or numbers k never) (get_or offers k never)
lowered_at [] [] k l = refl
lowered_at [] (y ∷ offers) k l = absurd (omega arith)
lowered_at (x ∷ numbers) [] zero l = sym (lesser_never x)
lowered_at (x ∷ numbers) [] (suc k) l = lowered_at numbers [] k (omega arith)
lowered_at (x ∷ numbers) (y ∷ offers) zero l = refl
lowered_at (x ∷ numbers) (y ∷ offers) (suc k) l = lowered_at numbers offers k (omega arith)

-- a number 0 stays
pub lowered_zero : (numbers offers : List Number) (k : ℕ) → get_or numbers k never ≡ exact 0 → get_or (lowered numbers offers) k never ≡ exact 0
lowered_zero [] offers k h = h
lowered_zero (x ∷ numbers) [] zero h = h
lowered_zero (x ∷ numbers) [] (suc k) h = lowered_zero numbers [] k h
lowered_zero (x ∷ numbers) (y ∷ offers) zero h = ap (λ a. lesser a y) h ∙ lesser_zero y
lowered_zero (x ∷ numbers) (y ∷ offers) (suc k) h = lowered_zero numbers offers k h

lowered_within : (numbers offers : List Number) → All WithinCap numbers → All WithinCap offers → All WithinCap (lowered numbers offers)
lowered_within [] offers h k = tt
lowered_within (x ∷ numbers) [] h k = (h.0, lowered_within numbers [] h.1 k)
lowered_within (x ∷ numbers) (y ∷ offers) h k = (lesser_within x y h.0 k.0, lowered_within numbers offers h.1 k.1)

lowered_at_most : (numbers offers : List Number) → Zip AtMost (lowered numbers offers) numbers
lowered_at_most [] offers = nil
lowered_at_most (x ∷ numbers) [] = cons (at_most_refl x) (lowered_at_most numbers [])
lowered_at_most (x ∷ numbers) (y ∷ offers) = cons (lesser_at_most x y) (lowered_at_most numbers offers)

-- a round raises none, whatever is offered, if the offers are within the cap
pub round_lowering : (offers : List Number → List Number) → ((numbers : List Number) → All WithinCap numbers → All WithinCap (offers numbers))
    → Lowering (round_of offers)
round_lowering offers h =
    record {
      within = λ numbers k. lowered_within numbers (offers numbers) k (h numbers k);
      raises_none = λ numbers k. lowered_at_most numbers (offers numbers);
    }
