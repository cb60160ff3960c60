-- `task_relaxed::relaxed_cost` meets its contract: the file, and then the action and the relaxed state.
use Prim.Native.Nat.{ℕ}
use mathlib.Core.Path.{refl, sym, ap, ◌∙◌}
use mathlib.Core.List.{List}
use native.Mathlib.Omega.{arith}
use Rattle.facts.specs.AnswerLaws.{handed}
use Rattle.taskfile.specs.TaskIndexLaws.{index_file, index_ready, index_refused}
use Rattle.taskfile.specs.AnswerLaws.{ask_refused}
use Rattle.relaxation.specs.RelaxedTask.{check_relaxed, relaxed_task}
use Rattle.relaxation.specs.RelaxedTaskLaws.{asked_refused}
use Rattle.task_relaxed.proofs.relaxed_cost.Goals as goal

pub returns-in_err-variables : goal.returns-in_err-variables
returns-in_err-variables c =
    handed _ _ c.from_residual.ensures.1
    ∙ sym (asked_refused _ _ _ (ask_refused check_relaxed (λ x sets. x) _ _ _ (index_refused _ (sym c.in_err-variables.ensures.result_value))))

-- the counts that the index answers, of the file's task in these bytes
pub relaxed_in-requires : goal.relaxed_in-requires
relaxed_in-requires c =
    let i = c.in_ok-variables.ensures in
    index_ready _ i.result_value refl c.bytes_of-bytes.ensures i.noted (omega (arith, c.index_in.auto.row))

pub returns : goal.returns
returns c = c.relaxed_in.ensures ∙ ap (λ (f : List ℕ). relaxed_task f c.args.action c.args.sets.now) (index_file _ c.in_ok-variables.ensures.result_value refl c.bytes_of-bytes.ensures)
