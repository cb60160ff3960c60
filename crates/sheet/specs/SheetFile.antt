-- The operation: the sheet of a plan of a task file. Document 02, W12: "An empty plan prints that line alone. Lists that are no plan, and short buffers, are turned down as in a run."
use Rattle.std.specs.Prelude.{ℕ, List}
use Rattle.facts.specs.Read.{Read, accepted, ◌>>=◌}
use Rattle.facts.specs.Run.{at_most}
use Rattle.taskfile.specs.Task.{max_list, task_sum}
use Rattle.taskfile.specs.TaskFile.{read_task}
use Rattle.sheet.specs.Sheet.{sheet_text}

-- The sheet and the sum: 1 to 6 for the file, 8, then per action 11 before 9, and 10 at the end. Answer and buffer are those of every operation that answers a sum and writes, `answer_in` and `buffer_in`: 7 comes last.
unfoldable pub sheet_of : List ℕ → List ℕ → Read (List ℕ × ℕ)
sheet_of f list = do
  t ← read_task f
  _ ← at_most max_list list
  sum ← task_sum t list
  accepted (sheet_text t list sum, sum)
