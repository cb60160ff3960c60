-- Laws of the last numbers, put back into the array fact by fact, variable by variable.
use Rattle.std.specs.Prelude.{ℕ, ◌+◌, ◌≤◌, ◌<◌, ◌≡◌, List, length, get_or, set}
use Rattle.std.proofs.Common.{ap, ◌∙◌, subst, arith, length-set, get_or-set_same, get_or-set_other}
use Rattle.std.proofs.Math.Decide.{ℕ_discrete}
use Rattle.estimate.specs.declared.Est.{Est}
use Rattle.estimate.specs.declared.Est.TheVariants.{Never}
use Rattle.estimate.specs.Number.{Number, number}
use Rattle.estimate.specs.Facts.{most_facts, fact_index, number_in, HasFacts}
use Rattle.estimate.specs.Ranks.{Roomy}
use Rattle.estimate.specs.RanksLaws.{fact_variable}

-- the array has the number `of w c` for each fact of the file that stands before the place of variable v with the value d
pub record PutBefore (sizes : List ℕ) (v d : ℕ) (numbers : List Est) (of : ℕ → ℕ → Number) : Type 0 where
  pub count : length numbers ≡ most_facts
  pub at : (w c : ℕ) → c < get_or sizes w 0 → fact_index w c < fact_index v d → number_in numbers w c ≡ of w c

-- none yet
pub put_none : {sizes : List ℕ} {numbers : List Est} {of : ℕ → ℕ → Number} → length numbers ≡ most_facts → PutBefore sizes 0 0 numbers of
put_none e = record { count = e; at = λ v d f l. absurd (omega arith) }

module _ {sizes : List ℕ} {room : ℕ} (roomy : Roomy sizes room) {numbers : List Est} {of : ℕ → ℕ → Number} {v d : ℕ} (h : PutBefore sizes v d numbers of) where
  -- the next value's number is stored
  pub put_more : d < get_or sizes v 0 → (e : Est) → number e ≡ of v d → PutBefore sizes v (d + 1) (set numbers (fact_index v d) e) of
  put_more f e is =
      record {
        count = length-set numbers (fact_index v d) e ∙ h.count;
        at = λ w c k l. go w c k l (ℕ_discrete (fact_index w c) (fact_index v d));
      }
    where
      go : (w c : ℕ) → c < get_or sizes w 0 → fact_index w c < fact_index v (d + 1) → Dec (fact_index w c ≡ fact_index v d) → number_in (set numbers (fact_index v d) e) w c ≡ of w c
      go w c k l (yes i) =
          let same-variable : w ≡ v = omega (arith, (roomy.room w c k).value, (roomy.room v d f).value) in
          let same-value : c ≡ d = omega arith in
          rw (same-variable, same-value) (ap number (get_or-set_same numbers (fact_index v d) e Never (omega (arith, h.count, (roomy.room v d f).variable, (roomy.room v d f).value))) ∙ is)
      go w c k l (no i) = ap number (get_or-set_other numbers (fact_index v d) (fact_index w c) e Never i) ∙ h.at w c k (omega arith)

  -- the variable has no further value
  pub put_variable : get_or sizes v 0 ≤ d → PutBefore sizes (v + 1) 0 numbers of
  put_variable past = record { count = h.count; at = λ w c k l. h.at w c k (go w c k l (ℕ_discrete w v)) }
    where
      go : (w c : ℕ) → c < get_or sizes w 0 → fact_index w c < fact_index (v + 1) 0 → Dec (w ≡ v) → fact_index w c < fact_index v d
      go w c k l (yes same) = let low : c < get_or sizes v 0 = subst (λ (w : ℕ). c < get_or sizes w 0) same k in omega arith
      go w c k l (no other) = omega (arith, (roomy.room w c k).value)

  -- there is no further variable
  pub put_all : length sizes ≤ v → HasFacts sizes numbers of
  put_all past = record { count = h.count; at = λ w c k. h.at w c k (omega (arith, fact_variable sizes w c k, (roomy.room w c k).value)) }
