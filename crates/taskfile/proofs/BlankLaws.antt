-- Laws of the blank task: only the empty file has it, no other task is without actions, and where code finds it.
use Rattle.std.specs.Prelude.{◌≡◌, ℕ, ◌≤◌, List, length}
use Rattle.std.proofs.Common.{ap, ◌∙◌, inl, inr}
use Rattle.facts.specs.Read.{accepted}
use Rattle.facts.specs.Fields.{read_head}
use Rattle.taskfile.specs.Task.{Task, max_variables, max_values}
use Rattle.taskfile.specs.TaskFile.{read_task}
use Rattle.taskfile.specs.Blank.{file_of}
use Rattle.taskfile.specs.TaskReadLaws.{head_of, task_read, blank_head_lem}
use Rattle.taskfile.specs.BlankLaws.{stands}

-- ---- the bytes in which code finds a task

-- its head stands there in any case
pub head_stands : (f : List ℕ) → 1 ≤ length f → {t : Task} → read_task (file_of f) ≡ accepted t → (at : ℕ) × (read_head f max_variables max_values ≡ accepted (head_of t, at))
head_stands f some {t} h = elim (stands f h) [
  | inl r ↦ ((task_read f r).at, (task_read f r).head_is)
  | inr q ↦ (11, ap (λ (f : List ℕ). read_head f max_variables max_values) (q.1 some) ∙ blank_head_lem ∙ ap (λ (t : Task). accepted (head_of t, 11)) q.0)
]
