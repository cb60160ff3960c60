-- The operations: what they write about a task file, as `length_in` and `written_in` (crate `facts`) say for every operation that writes.
use Rattle.std.specs.Prelude.{ℕ, List, [], ◌∷◌}
use Rattle.facts.specs.Read.{Read, accepted, with_value, ◌>>=◌}
use Rattle.taskfile.specs.Task.{Task}
use Rattle.taskfile.specs.TaskFile.{read_task, action_of}
use Rattle.words.specs.Show.{task_text}
use Rattle.words.specs.Dot.{dot_text}

-- the file f
module _ (f : List ℕ) where
  -- the task in words, or the file's refusal
  unfoldable pub shown : Read (List ℕ)
  shown = with_value task_text (read_task f)

  -- all cost diagrams
  unfoldable pub drawn : Read (List ℕ)
  drawn = with_value (λ (t : Task). dot_text 0 t.actions) (read_task f)

  -- the cost diagram of action number a; 11 at 0 where there is none
  unfoldable pub drawn_action : ℕ → Read (List ℕ)
  drawn_action a = do
    t ← read_task f
    x ← action_of t.actions a
    accepted (dot_text a (x ∷ []))
