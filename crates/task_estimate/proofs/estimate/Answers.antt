-- `task_estimate::estimate` meets its contract: the file is refused, or it is estimated in place.
use Prim.Native.Nat.{ℕ}
use mathlib.Core.Path.{refl, sym, ap, ◌∙◌}
use mathlib.Core.List.{List}
use native.Mathlib.Omega.{arith}
use Rattle.facts.specs.Read.{with_value}
use Rattle.facts.specs.AnswerLaws.{handed}
use Rattle.estimate.specs.Number.{number}
use Rattle.taskfile.specs.TaskIndexLaws.{index_file, index_ready, index_refused}
use Rattle.relaxation.specs.EstimateTask.{estimate_task}
use Rattle.relaxation.specs.EstimateTaskLaws.{estimate_not_read}
use Rattle.task_estimate.proofs.estimate.Goals as goal

pub returns-in_err-variables : goal.returns-in_err-variables
returns-in_err-variables c = ap (with_value number) (handed _ _ c.from_residual.ensures.1) ∙ sym (estimate_not_read _ _ (index_refused _ (sym c.in_err-variables.ensures.result_value)))

-- the counts that the index answers, of the file's task in these bytes
pub estimate_in-requires : goal.estimate_in-requires
estimate_in-requires c =
    let i = c.in_ok-variables.ensures in
    index_ready _ i.result_value refl c.bytes_of-bytes.ensures i.noted (omega (arith, c.index_in.auto.row))

pub returns : goal.returns
returns c = c.estimate_in.ensures ∙ ap (λ (f : List ℕ). estimate_task f c.args.state.now) (index_file _ c.in_ok-variables.ensures.result_value refl c.bytes_of-bytes.ensures)
