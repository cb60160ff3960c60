-- Why a list is no plan: the entry that does not apply, or the goal at the end, with each fact that fails and the value that is there. On tasks and probe files alike, as `run_from` (crate `facts`) runs both.
use Rattle.std.specs.Prelude.{ℕ, zero, suc, Bool, true, false, List, [], ◌∷◌, ◌++◌, eqb, ltb, length, get_or, None, Some, slice_get}
use Rattle.facts.specs.Read.{Read, accepted, check, with_value, ◌>>=◌}
use Rattle.facts.specs.Partial.{Partial, holds, apply, empty}
use Rattle.facts.specs.Run.{at_most}
use Rattle.taskfile.specs.Task.{Action, max_list}
use Rattle.taskfile.specs.TaskFile.{read_task}
use Rattle.probefile.specs.Probe.{Step, max_list as maxProbeList}
use Rattle.probefile.specs.ProbeFile.{read_probe}
use Rattle.text.specs.Text.{decimal}
use Rattle.text.specs.Append.{bytes}
use Rattle.words.specs.Words.{bits_text}

-- ---- facts that fail

-- the fact v = d, where variable v has the value x
abbrev pub unlike_text : ℕ → ℕ → ℕ → List ℕ
unlike_text v d x =
    elim (eqb d x) [ true ↦ [] | false ↦ bytes "  " ++ (decimal v ++ (bytes "=" ++ (decimal d ++ (bytes ", but variable " ++ (decimal v ++ (bytes " is " ++ (decimal x ++ bytes "\n"))))))) ]

-- the fact of variable v by its bit, if it fails where the variable has the value x
abbrev pub failed_text : ℕ → ℕ → ℕ → List ℕ → List ℕ
failed_text x v zero values = []
failed_text x v (suc b) [] = []
failed_text x v (suc b) (d ∷ values) = unlike_text v d x

-- the facts of p that fail in the state s, a line each, the lowest variable's first
abbrev pub failures_text : Partial → List ℕ → List ℕ
failures_text p s = bits_text (λ v. failed_text (get_or s v 0) v) (length s) 0 p

-- ---- where a run comes to its end

-- Entry i, action or step number a, whose precondition p does not hold in the state s; or the end of the list, in the state s.
pub data Halt : Type 0 where
  stopped : ℕ → ℕ → Partial → List ℕ → Halt
  ended : List ℕ → Halt

-- what k answers where the test is passed, and otherwise the end here
abbrev pub onward : Bool → Halt → (Unit {0} → Read Halt) → Read Halt
onward true here k = k tt
onward false here k = accepted here

-- The run of a list from the state s up to its first entry that does not apply. There are `count` actions or steps, with these preconditions and
-- effects by number, and the list's first entry has the index i; 11 at the index of a number that there is not.
unfoldable pub halt_from : ℕ → (ℕ → Partial) → (ℕ → Partial) → ℕ → List ℕ → List ℕ → Read Halt
halt_from count pre eff i [] s = accepted (ended s)
halt_from count pre eff i (a ∷ list) s = do
  _ ← check (ltb a count) 11 i
  onward (holds (pre a) s) (stopped i a (pre a) s) (λ u. halt_from count pre eff (suc i) list (apply (eff a) s))

-- entry i, number a, and what fails of its precondition
abbrev pub stop_text : List ℕ → ℕ → ℕ → List ℕ → List ℕ
stop_text label i a fails = bytes "Entry " ++ (decimal i ++ (bytes " is " ++ (label ++ (decimal a ++ (bytes ", whose precondition fails:\n" ++ fails)))))

-- what fails of the goal, if it does not hold
abbrev pub goal_text : Bool → List ℕ → List ℕ
goal_text true fails = []
goal_text false fails = bytes "The goal fails:\n" ++ fails

-- why the run is none of a plan; nothing where it is one
abbrev pub halt_text : List ℕ → Partial → Halt → List ℕ
halt_text label goal (stopped i a p s) = stop_text label i a (failures_text p s)
halt_text label goal (ended s) = goal_text (holds goal s) (failures_text goal s)

-- the same of a list run from the state s; `label` says what the numbers are
abbrev pub failure : List ℕ → ℕ → (ℕ → Partial) → (ℕ → Partial) → Partial → List ℕ → List ℕ → Read (List ℕ)
failure label count pre eff goal list s = with_value (halt_text label goal) (halt_from count pre eff 0 list s)

-- ---- the operations

-- precondition and effect of an action by number, and of a step
abbrev pub action_pre : List Action → ℕ → Partial
action_pre actions a = elim (slice_get actions a) [ None ↦ empty | Some x ↦ x.pre ]

abbrev pub action_eff : List Action → ℕ → Partial
action_eff actions a = elim (slice_get actions a) [ None ↦ empty | Some x ↦ x.eff ]

abbrev pub step_pre : List Step → ℕ → Partial
step_pre steps r = elim (slice_get steps r) [ None ↦ empty | Some st ↦ st.pre ]

abbrev pub step_eff : List Step → ℕ → Partial
step_eff steps r = elim (slice_get steps r) [ None ↦ empty | Some st ↦ st.eff ]

-- of a list of actions: 1 to 6 for the file, 8 for the list, 11 for an entry before the first that does not apply
unfoldable pub task_failure : List ℕ → List ℕ → Read (List ℕ)
task_failure f list = do
  t ← read_task f
  _ ← at_most max_list list
  failure (bytes "action ") (length t.actions) (action_pre t.actions) (action_eff t.actions) t.goal list t.init

-- of a list of steps: 1 to 5 for the file, and then likewise
unfoldable pub probe_failure : List ℕ → List ℕ → Read (List ℕ)
probe_failure f list = do
  p ← read_probe f
  _ ← at_most maxProbeList list
  failure (bytes "step ") (length p.steps) (step_pre p.steps) (step_eff p.steps) p.goal list p.init
