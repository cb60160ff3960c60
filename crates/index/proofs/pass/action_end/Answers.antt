-- `index::pass::action_end` meets its contract: past an action is past its diagram.
use mathlib.Core.Path.{sym, refl, ◌∙◌}
use Rattle.facts.specs.AnswerLaws.{handed}
use Rattle.taskfile.specs.IndexLaws.{action_no_front, action_diagram, action_placed}
use Rattle.index.proofs.pass.action_end.Goals as goal

pub returns-in_err-place-clause-result_value : goal.returns-in_err-place-clause-result_value
returns-in_err-place-clause-result_value c = handed _ _ c.from_residual.ensures.1 ∙ sym (action_no_front _ _ _ _ (sym c.in_err-place.ensures.result_value))

pub returns-clause-result_value : goal.returns-clause-result_value
returns-clause-result_value c = c.diagram_end.ensures.result_value ∙ sym (action_diagram _ _ _ _ (sym c.in_ok-place.ensures.result_value))

pub returns-clause-by_index : goal.returns-clause-by_index
returns-clause-by_index c =
    λ p q. action_placed _ _ _ _ (sym c.in_ok-place.ensures.result_value) (c.in_ok-place.ensures.by_index _ refl) (c.diagram_end.ensures.by_index p q)
