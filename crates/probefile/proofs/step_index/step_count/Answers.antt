-- `probefile::step_index::step_count` meets its contract: two bytes, at most the limit.
use mathlib.Core.Path.{sym, ap, ◌∙◌}
use Rattle.facts.specs.AnswerLaws.{handed}
use Rattle.facts.specs.Fields.{value_of}
use Rattle.probefile.specs.InPlaceLaws.{count_refused, count_high, count_good}
use Rattle.probefile.proofs.step_index.step_count.Goals as goal

pub returns-in_err-count : goal.returns-in_err-count
returns-in_err-count c = handed _ _ c.from_residual.ensures.1 ∙ sym (ap value_of (count_refused _ _ (sym c.in_err-count.ensures)))

pub returns-then-count : goal.returns-then-count
returns-then-count c = sym (ap value_of (count_high _ _ (sym c.in_ok-count.ensures) c.if-count.true))

pub returns : goal.returns
returns c = sym (ap value_of (count_good _ _ (sym c.in_ok-count.ensures) c.if-count.false))
