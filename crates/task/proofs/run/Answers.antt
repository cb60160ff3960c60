-- `task::run` meets its contract: the file, and then the run.
use Prim.Native.Nat.{ℕ}
use mathlib.Core.Path.{refl, sym, ap, ◌∙◌}
use mathlib.Core.List.{List}
use native.Mathlib.Omega.{arith}
use Rattle.taskfile.specs.TaskFile.{run_task}
use Rattle.taskfile.specs.TaskIndexLaws.{index_file, index_ready, index_refused}
use Rattle.taskfile.specs.AnswerLaws.{run_refused, tallied_handed}
use Rattle.task.proofs.run.Goals as goal

pub returns-in_err-variables : goal.returns-in_err-variables
returns-in_err-variables c = tallied_handed _ _ c.from_residual.ensures.1 ∙ sym (run_refused _ _ (index_refused _ (sym c.in_err-variables.ensures.result_value)))

-- the counts that the index answers, of the file's task in these bytes
pub run_in-requires : goal.run_in-requires
run_in-requires c =
    let i = c.in_ok-variables.ensures in
    index_ready _ i.result_value refl c.bytes_of-bytes.ensures i.noted (omega (arith, c.index_in.auto.row))

pub returns : goal.returns
returns c = c.run_in.ensures ∙ ap (λ (f : List ℕ). run_task f c.args.list.now) (index_file _ c.in_ok-variables.ensures.result_value refl c.bytes_of-bytes.ensures)
