-- From the index of a task file, and the probe file that is written from it, to the operation: the trace in place is the task's.
use Rattle.std.specs.Prelude.{ℕ, ◌+◌, ◌≤◌, ◌<◌, ◌≡◌, Bool, length, take, drop}
use Rattle.std.proofs.Common.{sym, ap, ◌∙◌, arith}
use mathlib.Core.List.{List, ◌++◌}
use Rattle.facts.specs.Read.{accepted, refused}
use Rattle.facts.specs.ReadLaws.{not_made, not_refused}
use Rattle.facts.specs.RunLaws.{list_long, list_fits}
use Rattle.facts.specs.Bytes.{Bytes}
use Rattle.taskfile.specs.Task.{Task, max_written}
use Rattle.taskfile.specs.TaskFile.{read_task, check_task}
use Rattle.taskfile.specs.Blank.{file_of}
use Rattle.taskfile.specs.Index.{Ready}
use Rattle.taskfile.specs.AnswerLaws.{there}
use Rattle.probefile.specs.Probe.{Probe, max_list}
use Rattle.probefile.specs.ProbeFile.{read_probe}
use Rattle.probefile.specs.InPlace.{probe_at, Located}
use Rattle.probefile.specs.IndexLaws.{not_read, accepted_probe, starts}
use Rattle.compilation.specs.Compile.{probe_of}
use Rattle.compilation.specs.CompileFile.{compile_file}
use Rattle.compilation.proofs.ProgramLaws.{not_compiled}
use Rattle.text.specs.Append.{bytes}
use Rattle.carry.specs.SameSumLaws.{WrittenFrom}
use Rattle.steps.specs.Steps.{Named, names_of, check_steps}
use Rattle.steps.specs.CostLaws.{same_count}
use Rattle.failure.specs.Failure.{step_pre, step_eff}
use Rattle.failure.specs.InPlace.{pre_at, eff_at}
use Rattle.failure.specs.FileLaws.{step_there}
use Rattle.trace.specs.Trace.{Entry, state_text, entries_text, trace_text}
use Rattle.trace.specs.TraceFile.{traced}
use Rattle.trace.specs.TraceLaws.{entries_same}

-- what is known of a file and a list that are not refused: the task, whose steps have these names, and that each number of the list is a step's
pub record Stated (f list : List ℕ) (names : List Named) : Type 0 where
  pub bytes : Bytes f
  pub t : Task
  pub task : read_task f ≡ accepted t
  pub same : names ≡ names_of t
  pub few : length list ≤ max_list
  pub u : Unit {0}
  pub known : check_steps names 0 list ≡ accepted u

module _ (states : Bool) (f list : List ℕ) where
  -- The file's refusal.
  pub trace_refused : {n p : ℕ} → check_task f ≡ refused n p → traced states f list ≡ refused n p
  unfolding check_task traced
  trace_refused h = rw (not_made (λ (t : Task). tt) (read_task f) h)

  -- The same of a task that is not compiled.
  pub trace_uncompiled : {n p : ℕ} → compile_file f max_written ≡ refused n p → traced states f list ≡ refused n p
  unfolding traced
  trace_uncompiled h = rw (not_compiled f h)

  -- the task of an accepted file with this index
  module _ {n count : ℕ} {row : List ℕ} (ready : Ready f n count row) where
    -- The list is over its limit.
    pub trace_long : max_list < length list → traced states (file_of f) list ≡ refused 8 max_list
    unfolding traced
    trace_long l = rw ((there f ready).reads, list_long max_list list l)

    -- An entry is no step.
    pub trace_missing : length list ≤ max_list → {names : List Named} → names ≡ names_of (there f ready).task → {n p : ℕ} → check_steps names 0 list ≡ refused n p → traced states (file_of f) list ≡ refused n p
    unfolding traced
    trace_missing l same h = rw ((there f ready).reads, list_fits max_list list l, ← same, h)

-- Else the list is traced.
module _ {f list : List ℕ} {names : List Named} (known : Stated f list names) where
  stated_is : (states : Bool) → let p = probe_of known.t in traced states f list ≡ accepted (trace_text states names (step_pre p.steps) (step_eff p.steps) list p.init)
  unfolding traced
  stated_is states = rw (known.task, list_fits max_list list known.few, ← known.same, known.known)

  -- on the written file
  module _ {written : List ℕ} (w : WrittenFrom f written) where
    probe_is : read_probe written ≡ accepted (probe_of known.t)
    probe_is = let same : w.t ≡ known.t = cc (w.task, known.task) in w.probe ∙ ap (λ (t : Task). accepted (probe_of t)) same

    -- It is not refused.
    pub written_accepted : {n p : ℕ} → probe_at written ≡ refused n p → ⊥
    written_accepted h = not_refused (sym (not_read written h) ∙ probe_is)

    module _ {n k : ℕ} (h : probe_at written ≡ accepted (n, k)) (offsets : List ℕ) (loc : Located written offsets) where
      abbrev p : Probe
      p = (accepted_probe written h).probe

      p_is : p ≡ probe_of known.t
      p_is = cc ((accepted_probe written h).reads, probe_is)

      -- There are as many steps as names.
      counted : length names ≡ k
      counted = ap length known.same ∙ same_count known.t ∙ ap (λ (p : Probe). length p.steps) (sym p_is) ∙ (accepted_probe written h).steps

      in_place : (states : Bool) → trace_text states names (step_pre p.steps) (step_eff p.steps) list p.init ≡ trace_text states names (pre_at written offsets) (eff_at written offsets) list (take n (drop (1 + n) written))
      unfolding trace_text
      in_place states =
          rw (starts written h).init
          (ap (λ (es : List Entry). state_text states (bytes "initial state:") p.init ++ entries_text states es)
          (entries_same names (step_pre p.steps) (step_eff p.steps) (pre_at written offsets) (eff_at written offsets) (λ r l. step_there written list h offsets loc r (omega (arith, counted))) list p.init 0))

      pub trace_is : (states : Bool) → traced states f list ≡ accepted (trace_text states names (pre_at written offsets) (eff_at written offsets) list (take n (drop (1 + n) written)))
      trace_is states =
          stated_is states ∙ ap (λ (p : Probe). accepted (trace_text states names (step_pre p.steps) (step_eff p.steps) list p.init)) (sym p_is) ∙ ap accepted (in_place states)
