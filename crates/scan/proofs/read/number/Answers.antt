-- `scan::read::number` meets its contract: the first number is the only one if there is one.
use mathlib.Core.Path.{sym, ap, ◌∙◌}
use Rattle.std.specs.Prelude.{ℕ, Option, Ok}
use Rattle.text.specs.Text.{with_parsed, only_of}
use Rattle.text.specs.Answers.{token_answer}
use Rattle.text.specs.TokenLaws.{from_start, wrong_on, with_wrong, wrong_of, only_one, only_more}
use Rattle.scan.proofs.read.number.Goals as goal

pub returns-in_err-number : goal.returns-in_err-number
returns-in_err-number c =
    wrong_on _ _ c.from_residual.ensures.1 ∙ sym (ap (with_parsed only_of) (from_start _ _ _ c.in_err-number.ensures.text_value) ∙ with_wrong only_of _)

pub returns-in_default : goal.returns-in_default
returns-in_default c = sym (ap (with_parsed only_of) (from_start _ _ _ (c.in_ok-number.ensures.text_value ∙ ap (λ (o : Option (ℕ × ℕ)). token_answer c.args.most c.args.text.now (Ok o)) c.in_default.is)))

pub returns-in_err-one : goal.returns-in_err-one
returns-in_err-one c =
    wrong_on _ _ c.from_residual-in_err-one.ensures.1 ∙ sym (ap (with_parsed only_of) (wrong_of _ _ _ (sym c.in_err-one.ensures)) ∙ with_wrong only_of _)

pub returns-then-one : goal.returns-then-one
returns-then-one c =
    let k = c.in-Some.is in let e = c.in-Some.number-is in
    sym (only_one _ _ _ _ (from_start _ _ _ (c.in_ok-number.ensures.text_value ∙ ap (λ (o : Option (ℕ × ℕ)). token_answer c.args.most c.args.text.now (Ok o)) c.in-Some.is)) (sym c.in_ok-one.ensures) c.if-one.true)

pub returns : goal.returns
returns c =
    sym (only_more _ _ _ _ (from_start _ _ _ (c.in_ok-number.ensures.text_value ∙ ap (λ (o : Option (ℕ × ℕ)). token_answer c.args.most c.args.text.now (Ok o)) c.in-Some.is)) (sym c.in_ok-one.ensures) c.if-one.false)
