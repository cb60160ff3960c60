-- The operation: the trace of a probe list on the probe file written from a task file.
use Rattle.std.specs.Prelude.{ℕ, Bool, List}
use Rattle.facts.specs.Read.{Read, accepted, ◌>>=◌}
use Rattle.facts.specs.Run.{at_most}
use Rattle.taskfile.specs.Task.{Task}
use Rattle.taskfile.specs.TaskFile.{read_task}
use Rattle.probefile.specs.Probe.{max_list}
use Rattle.compilation.specs.Compile.{probe_of}
use Rattle.steps.specs.Steps.{names_of, check_steps}
use Rattle.failure.specs.Failure.{step_pre, step_eff}
use Rattle.trace.specs.Trace.{Entry, entries, trace_text}

-- the entries of a list on the compilation of a task, from its initial state on; and in words
abbrev pub task_entries : Task → List ℕ → List Entry
task_entries t list = entries (names_of t) (step_pre (probe_of t).steps) (step_eff (probe_of t).steps) 0 list (probe_of t).init

abbrev pub task_trace : Bool → Task → List ℕ → List ℕ
task_trace states t list = trace_text states (names_of t) (step_pre (probe_of t).steps) (step_eff (probe_of t).steps) list (probe_of t).init

-- the file's refusals, 8 for a list over its limit, then 11 at the index of a number that no step has
unfoldable pub traced : Bool → List ℕ → List ℕ → Read (List ℕ)
traced states f list = do
  t ← read_task f
  _ ← at_most max_list list
  _ ← check_steps (names_of t) 0 list
  accepted (task_trace states t list)
