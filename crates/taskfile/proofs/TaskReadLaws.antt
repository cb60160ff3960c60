-- Laws of reading a task file: an accepted file's task is well-formed and inside the limits, and the file has at most 3,826 bytes.
use Rattle.std.specs.Prelude.{◌≡◌}
use Rattle.std.proofs.Common.{arith}
use Prim.Native.Nat.{ℕ}
use mathlib.Core.List.{List}
use Rattle.facts.specs.Read.{accepted}
use Rattle.facts.specs.ListLaws.{at_none}
use Rattle.facts.specs.WellFormed.{WfHead}
use Rattle.facts.specs.HeadLaws.{head_read}
use Rattle.taskfile.specs.Task.{Task, max_variables, max_values, WfTask, Limits}
use Rattle.taskfile.specs.TaskFile.{blank, read_task}
use Rattle.taskfile.specs.Blank.{blank_head}
use Rattle.taskfile.specs.TaskReadLaws.{head_of, bytes_wf, bytes_limits, blank_head_lem, each_task}

-- ---- the file that has no bytes

blank_wf : WfHead max_variables max_values (head_of blank)
blank_wf = (head_read blank_head max_variables max_values blank_head_lem).wf

pub task_wf : (f : List ℕ) {t : Task} → read_task f ≡ accepted t → WfTask t
task_wf = each_task (λ f t. WfTask t) (λ f t h. bytes_wf f h) (record { init = blank_wf.init; goal = blank_wf.goal; actions = λ a. absurd (at_none a) })

pub task_limits : (f : List ℕ) {t : Task} → read_task f ≡ accepted t → Limits t
task_limits = each_task (λ f t. Limits t) (λ f t h. bytes_limits f h) (record { some_variable = omega arith; variables = omega arith; sizes = blank_wf.sizes; actions = omega arith; nodes = omega arith })
