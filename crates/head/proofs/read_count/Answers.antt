-- `head::read_count` meets its contract: one byte, inside its range.
use mathlib.Core.Path.{sym, ap, ◌∙◌}
use Rattle.facts.specs.AnswerLaws.{handed}
use Rattle.facts.specs.Fields.{value_of}
use Rattle.facts.specs.FieldLaws.{count_refused, count_low, count_high, count_good}
use Rattle.head.proofs.read_count.Goals as goal

pub returns-in_err-n : goal.returns-in_err-n
returns-in_err-n c = handed _ _ c.from_residual.ensures.1 ∙ sym (ap value_of (count_refused _ _ _ _ (sym c.in_err-n.ensures)))

pub returns-then-n-low : goal.returns-then-n-low
returns-then-n-low c = sym (ap value_of (count_low _ _ _ _ (sym c.in_ok-n.ensures) c.if-n-low.true))

pub returns-then-high-n : goal.returns-then-high-n
returns-then-high-n c = sym (ap value_of (count_high _ _ _ _ (sym c.in_ok-n.ensures) c.if-n-low.false c.if-high-n.true))

pub returns : goal.returns
returns c = sym (ap value_of (count_good _ _ _ _ (sym c.in_ok-n.ensures) c.if-n-low.false c.if-high-n.false))
