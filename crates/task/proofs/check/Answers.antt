-- `task::check` meets its contract: the answer of the pass, without what it counted.
use mathlib.Core.Path.{sym, ◌∙◌}
use Rattle.facts.specs.AnswerLaws.{handed}
use Rattle.taskfile.specs.TaskIndexLaws.{index_refused, index_accepted}
use Rattle.task.proofs.check.Goals as goal

pub returns-in_err-index_in : goal.returns-in_err-index_in
returns-in_err-index_in c = handed _ _ c.from_residual.ensures.1 ∙ sym (index_refused _ (sym c.in_err-index_in.ensures.result_value))

pub returns : goal.returns
returns c = sym (index_accepted _ (sym c.in_ok-index_in.ensures.result_value))
