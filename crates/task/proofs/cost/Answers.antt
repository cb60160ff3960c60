-- `task::cost` meets its contract: the file, and then the action and the state.
use Prim.Native.Nat.{ℕ}
use mathlib.Core.Path.{refl, sym, ap, ◌∙◌}
use mathlib.Core.List.{List}
use native.Mathlib.Omega.{arith}
use Rattle.facts.specs.State.{check_state}
use Rattle.taskfile.specs.Task.{walk}
use Rattle.taskfile.specs.TaskFile.{cost_task}
use Rattle.taskfile.specs.TaskIndexLaws.{index_file, index_ready, index_refused}
use Rattle.taskfile.specs.AnswerLaws.{ask_refused, tallied_handed}
use Rattle.task.proofs.cost.Goals as goal

pub returns-in_err-variables : goal.returns-in_err-variables
returns-in_err-variables c = tallied_handed _ _ c.from_residual.ensures.1 ∙ sym (ask_refused check_state walk _ _ _ (index_refused _ (sym c.in_err-variables.ensures.result_value)))

-- the counts that the index answers, of the file's task in these bytes
pub cost_in-requires : goal.cost_in-requires
cost_in-requires c =
    let i = c.in_ok-variables.ensures in
    index_ready _ i.result_value refl c.bytes_of-bytes.ensures i.noted (omega (arith, c.index_in.auto.row))

pub returns : goal.returns
returns c = c.cost_in.ensures ∙ ap (λ (f : List ℕ). cost_task f c.args.action c.args.state.now) (index_file _ c.in_ok-variables.ensures.result_value refl c.bytes_of-bytes.ensures)
