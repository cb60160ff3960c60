-- Laws of the code's answers: what a `?` hands on.
use Rattle.std.specs.Prelude.{◌≡◌, ℕ, List, length, get_or, ltb, Result, Option, None, Some, is_some, IfSome, IsErrAnd, slice_get, option_copied}
use Rattle.std.specs.Borrow.{Bor}
use Rattle.std.proofs.lemmas.Option.{slice_get_read, slice_get_past}
use borrow.Author.Tests.{ltb-true, ltb-false}
use Rattle.std.proofs.Common.{ap, ◌∙◌, refl, sym}
use Rattle.std.proofs.lemmas.Result.{err_from_is_err_and}
use Rattle.facts.specs.declared.Refusal.{Refusal}
use Rattle.facts.specs.Refusal.{number, place}
use Rattle.facts.specs.Read.{refused}
use Rattle.facts.specs.Answers.{answer}

-- the callee's refusal is the caller's: where the callee's answer is what `from` says, so is the caller's
pub handed : {X : Type 0} (r : Result X Refusal) (why : Refusal) → IsErrAnd r (λ e. e ≡ why) → answer r ≡ refused (number why) (place why)
handed r why h = let p = err_from_is_err_and r h in ap answer p.1 ∙ ap (λ e. refused (number e) (place e)) p.2

-- the element at an index by `get` and `copied`, as their contracts say it
pub copied_at : (xs : List ℕ) (i : ℕ) (o : Option (Bor ℕ)) → is_some o ≡ ltb i (length xs) → IfSome o (λ x. x.now ≡ get_or xs i x.now) → option_copied o ≡ slice_get xs i
copied_at xs i None e h = sym (slice_get_past xs i (ltb-false i (length xs) (sym e)))
copied_at xs i (Some x) e h = sym (slice_get_read xs (length xs) i x.now refl (ltb-true i (length xs) (sym e)) h)
