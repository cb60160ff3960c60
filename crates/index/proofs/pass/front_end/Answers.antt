-- `index::pass::front_end` meets its contract: the fields one after the other, and where the last two stand.
use mathlib.Core.Path.{sym, ap₂, ◌∙◌}
use Prim.Native.Nat.{ℕ, ◌+◌}
use lib.ListN.{set}
use Rattle.facts.specs.AnswerLaws.{handed}
use Rattle.facts.specs.FieldLaws.{number_read}
use Rattle.facts.specs.OperatorLaws.{operator_no_pre, operator_no_effect, operator_no_weight, operator_good}
use Rattle.taskfile.specs.Row.{effects_from, incoming_from}
use Rattle.taskfile.specs.IndexLaws.{past_at, past_both}
use native.Mathlib.Omega.{arith}
use Rattle.index.proofs.pass.front_end.Goals as goal

pub returns-in_err-effect-clause-result_value : goal.returns-in_err-effect-clause-result_value
returns-in_err-effect-clause-result_value c = handed _ _ c.from_residual.ensures.1 ∙ sym (operator_no_pre _ _ _ (sym c.in_err-effect.ensures))

pub returns-in_err-incoming-clause-result_value : goal.returns-in_err-incoming-clause-result_value
returns-in_err-incoming-clause-result_value c = handed _ _ c.from_residual-in_err-incoming.ensures.1 ∙ sym (operator_no_effect _ _ _ (sym c.in_ok-effect.ensures) (sym c.in_err-incoming.ensures))

pub returns-in_err-read_word-clause-result_value : goal.returns-in_err-read_word-clause-result_value
returns-in_err-read_word-clause-result_value c =
    handed _ _ c.from_residual-in_err-read_word.ensures.1 ∙ sym (operator_no_weight _ _ _ (sym c.in_ok-effect.ensures) (sym c.in_ok-incoming.ensures) (sym c.in_err-read_word.ensures))

pub overflow_add-result : goal.overflow_add-result
overflow_add-result c = omega (arith, (number_read _ 2 _ (sym c.in_ok-read_word.ensures)).fits)

pub returns-clause-result_value : goal.returns-clause-result_value
returns-clause-result_value c = sym (operator_good _ _ _ (sym c.in_ok-effect.ensures) (sym c.in_ok-incoming.ensures) (sym c.in_ok-read_word.ensures))

pub returns-clause-by_index : goal.returns-clause-by_index
returns-clause-by_index c =
    let a = c.args in
    let f = a.file.now in
    let effect = past_at f a.sizes.now a.at (sym c.in_ok-effect.ensures) in
    let incoming = past_both f a.at effect (past_at f a.sizes.now c.in_ok-effect.effect (sym c.in_ok-incoming.ensures)) in
    λ end q. ap₂ (λ (e i : ℕ). set (set a.row.now (effects_from + a.a) e) (incoming_from + a.a) i) effect incoming
