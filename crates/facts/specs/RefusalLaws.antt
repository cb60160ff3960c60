-- Laws of refusals by number: each is found by its number and its place, and what is found has them.
use Rattle.std.specs.Prelude.{◌≡◌, refl, false, ℕ, None, Some}
use Rattle.std.proofs.Math.Path.{sym}
use Rattle.std.proofs.Common.{ap, ◌∙◌, eqb-true}
use Rattle.std.proofs.Math.Dec.{eqb}
use Rattle.facts.specs.Lists.{All}
use Rattle.facts.specs.ListLaws.{find_inv, find_none}
use Rattle.facts.specs.Refusal.{number, place, refusals, refusal_with}
use Rattle.facts.specs.declared.Refusal.{Refusal}
use Rattle.facts.specs.declared.Refusal.TheVariants.{Ends, Trailing, Range, Outside, Stray, Diagram, Short, Long, Blocked, Unmet, Missing, Width, Lacking}

pub with_number : (why : Refusal) → refusal_with (number why) (place why) ≡ Some why
unfolding refusal_with
with_number (Ends p) = refl
with_number (Trailing p) = refl
with_number (Range p) = refl
with_number (Outside p) = refl
with_number (Stray p) = refl
with_number (Diagram p) = refl
with_number (Short p) = refl
with_number (Long p) = refl
with_number (Blocked p) = refl
with_number (Unmet p) = refl
with_number (Missing p) = refl
with_number (Width p) = refl
with_number (Lacking p) = refl

pub with_key : (why : Refusal) {n : ℕ} → n ≡ number why → Some why ≡ refusal_with n (place why)
with_key why e = sym (with_number why) ∙ ap (λ (n : ℕ). refusal_with n (place why)) (sym e)

module _ (n p : ℕ) where
  pub with_inv : {why : Refusal} → refusal_with n p ≡ Some why → (place why ≡ p) × (number why ≡ n)
  unfolding refusal_with
  with_inv {why} h =
      let of = find_inv (λ (why : Refusal). eqb n (number why)) (λ (why : Refusal). place why ≡ p) (refusals p) (refl, (refl, (refl, (refl, (refl, (refl, (refl, (refl, (refl, (refl, (refl, (refl, (refl, tt))))))))))))) h in
      (of.0, sym (eqb-true n (number why) of.1))

  -- a number that none has
  pub with_none : All (λ (why : Refusal). eqb n (number why) ≡ false) (refusals p) → refusal_with n p ≡ None
  unfolding refusal_with
  with_none h = find_none (λ (why : Refusal). eqb n (number why)) (refusals p) h
