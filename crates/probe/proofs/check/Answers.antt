-- `probe::check` meets its contract: what is answered is the index without its offsets.
use mathlib.Core.Path.{sym, ◌∙◌}
use Rattle.facts.specs.AnswerLaws.{handed}
use Rattle.probefile.specs.IndexLaws.{check_refused, check_accepted}
use Rattle.probe.proofs.check.Goals as goal

pub returns-in_err-index : goal.returns-in_err-index
returns-in_err-index c = handed _ _ c.from_residual.ensures.1 ∙ sym (check_refused _ (sym c.in_err-index.ensures.counted))

pub returns : goal.returns
returns c = sym (check_accepted _ (sym c.in_ok-index.ensures.counted))
