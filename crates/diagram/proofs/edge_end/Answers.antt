-- `diagram::edge_end` meets its contract: the fields one after the other.
use mathlib.Core.Path.{sym, ◌∙◌}
use Rattle.facts.specs.AnswerLaws.{handed}
use Rattle.facts.specs.FieldLaws.{number_read}
use Rattle.taskfile.specs.TargetLaws.{edge_no_target, edge_no_weight, edge_good}
use native.Mathlib.Omega.{arith}
use Rattle.diagram.proofs.edge_end.Goals as goal

pub returns-in_err-weight : goal.returns-in_err-weight
returns-in_err-weight c = handed _ _ c.from_residual.ensures.1 ∙ sym (edge_no_target _ _ _ _ (sym c.in_err-weight.ensures))

pub returns-in_err-read_word : goal.returns-in_err-read_word
returns-in_err-read_word c = handed _ _ c.from_residual-in_err-read_word.ensures.1 ∙ sym (edge_no_weight _ _ _ _ (sym c.in_ok-weight.ensures) (sym c.in_err-read_word.ensures))

pub overflow_add-result : goal.overflow_add-result
overflow_add-result c = omega (arith, (number_read _ 2 _ (sym c.in_ok-read_word.ensures)).fits)

pub returns : goal.returns
returns c = sym (edge_good _ _ _ _ (sym c.in_ok-weight.ensures) (sym c.in_ok-read_word.ensures))
