-- `partial::partial_end` meets its contract: the map, its stray bits, its values, in this order.
use mathlib.Core.Path.{sym, ◌∙◌}
use borrow.Author.Tests.{leb-true, leb-false}
use lib.Count.{ones-le}
use Rattle.facts.specs.AnswerLaws.{handed}
use Rattle.facts.specs.FieldLaws.{number_read}
use Rattle.facts.specs.PartialReadLaws.{partial_refused, partial_stray, partial_value, partial_next}
use native.Mathlib.Omega.{arith}
use Rattle.partial.proofs.partial_end.Goals as goal

pub returns-in_err-map : goal.returns-in_err-map
returns-in_err-map c = handed _ _ c.from_residual.ensures.1 ∙ sym (partial_refused _ _ _ (sym c.in_err-map.ensures))

pub returns-then-stray : goal.returns-then-stray
returns-then-stray c = sym (partial_stray _ _ _ (sym c.in_ok-map.ensures) (leb-true _ _ (sym c.stray.ensures ∙ c.if-stray.true)))

pub overflow_add-at : goal.overflow_add-at
overflow_add-at c = omega (arith, (number_read _ 8 _ (sym c.in_ok-map.ensures)).fits)

pub values_end-requires : goal.values_end-requires
values_end-requires c = (omega (arith, (number_read _ 8 _ (sym c.in_ok-map.ensures)).fits), leb-false _ _ (sym c.stray.ensures ∙ c.if-stray.false))

pub overflow_add-result : goal.overflow_add-result
overflow_add-result c = omega (arith, (number_read _ 8 _ (sym c.in_ok-map.ensures)).fits, ones-le 64 c.in_ok-map.map (omega arith))

pub returns-in_err-values_end : goal.returns-in_err-values_end
returns-in_err-values_end c =
    handed _ _ c.from_residual-in_err-values_end.ensures.1
    ∙ sym (partial_value _ _ _ (sym c.in_ok-map.ensures) (leb-false _ _ (sym c.stray.ensures ∙ c.if-stray.false)) (sym c.in_err-values_end.ensures))

pub returns : goal.returns
returns c = rw c.partial_length.ensures (sym (partial_next _ _ _ (sym c.in_ok-map.ensures) (leb-false _ _ (sym c.stray.ensures ∙ c.if-stray.false)) (sym c.in_ok-values_end.ensures)))
