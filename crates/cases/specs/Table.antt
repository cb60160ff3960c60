-- Document 01's table of refusals, and document 02's rows: what a row says of files, of lists, of states and of estimates. The rows themselves, in their order
-- and with their words, are in proofs/Table.antt.
use Rattle.std.specs.Prelude.{◌≡◌, ◌↔◌, ◌⊎◌, ℕ, ◌≤◌, List, length}
use Rattle.facts.specs.Read.{Read, accepted, refused}
use Rattle.estimate.specs.Number.{Number}
use Rattle.taskfile.specs.Task.{Task}
use Rattle.taskfile.specs.TaskFile.{read_task, cost_task, run_task}
use Rattle.probefile.specs.Probe.{Probe}
use Rattle.probefile.specs.ProbeFile.{read_probe, run_probe}
use Rattle.relaxation.specs.RelaxedTask.{relaxed_task}
use Rattle.compilation.specs.Compile.{probe_of}
use Rattle.carry.specs.CarryFile.{expanded, contracted}
use Rattle.cases.specs.Sites.{Sites}
use Rattle.cases.specs.TaskSites.{TaskSites, ProbeSites}
use Rattle.cases.specs.ListRows.{System}
use Rattle.cases.specs.OperationRows.{task_system, probe_system}
use Rattle.cases.specs.StateRows.{Outside}

-- ---- what a row says

-- of files: refusal n is given for a task file, and for a probe file, exactly if the condition holds, at its place
abbrev pub InFiles : ℕ → (List ℕ → Sites → ℕ → Type 0) → Type 0
InFiles n condition = (f : List ℕ) (p : ℕ) → ((read_task f ≡ refused n p) ↔ condition f (TaskSites f) p) × ((read_probe f ≡ refused n p) ↔ condition f (ProbeSites f) p)

-- of lists: refusal n is given exactly if the file is accepted, the list is within its limit and the condition holds, at its place
pub record InLists (n : ℕ) (condition : System → List ℕ → List ℕ → ℕ → Type 0) : Type 0 where
  pub running : (f list : List ℕ) (p : ℕ) → (run_task f list ≡ refused n p) ↔ ((t : Task) × (read_task f ≡ accepted t) × ((length list ≤ 256) × condition (task_system t) list t.init p))
  pub running_probe : (f list : List ℕ) (p : ℕ) → (run_probe f list ≡ refused n p) ↔ ((y : Probe) × (read_probe f ≡ accepted y) × ((length list ≤ 6656) × condition (probe_system y) list y.init p))
  pub expanding : (f list : List ℕ) (p : ℕ) → (expanded f list ≡ refused n p) ↔ ((t : Task) × (read_task f ≡ accepted t) × ((length list ≤ 256) × condition (task_system t) list t.init p))
  pub contracting : (f list : List ℕ) (p : ℕ)
      → (contracted f list ≡ refused n p) ↔ ((t : Task) × (read_task f ≡ accepted t) × ((length list ≤ 6656) × condition (probe_system (probe_of t)) list (probe_of t).init p))

-- of an action number and a state, or a relaxed state: refusal n is given exactly if the file is accepted and the condition holds, at its place
pub record InStates (n : ℕ) (condition : Task → ℕ → List ℕ → ℕ → Type 0) : Type 0 where
  pub costing : (f : List ℕ) (a : ℕ) (s : List ℕ) (p : ℕ) → (cost_task f a s ≡ refused n p) ↔ ((t : Task) × (read_task f ≡ accepted t) × condition t a s p)
  pub relaxed_costing : (f : List ℕ) (a : ℕ) (sets : List ℕ) (p : ℕ) → (relaxed_task f a sets ≡ refused n p) ↔ ((t : Task) × (read_task f ≡ accepted t) × condition t a sets p)

-- of an estimate of the file that is read by `read`, from a state: 4, which the file may have too; 12; and what only the file has
pub record InEstimates {X : Type 0} (sizes : X → List ℕ) (read : List ℕ → Read X) (estimated : List ℕ → List ℕ → Read Number) : Type 0 where
  pub row_4 : (f s : List ℕ) (p : ℕ) → (estimated f s ≡ refused 4 p)
      ↔ ((read f ≡ refused 4 p) ⊎ ((x : X) × (read f ≡ accepted x) × ((length s ≡ length (sizes x)) × Outside (sizes x) s p)))
  pub row_12 : (f s : List ℕ) (p : ℕ) → (estimated f s ≡ refused 12 p) ↔ ((x : X) × (read f ≡ accepted x) × ((length s ≡ length (sizes x) → ⊥) × (p ≡ 0)))
  pub file_first : (f s : List ℕ) (n p : ℕ) → n ≤ 6 → (n ≡ 4 → ⊥) → (estimated f s ≡ refused n p) ↔ (read f ≡ refused n p)
