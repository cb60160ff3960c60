-- Probe files as values: steps of fixed cost. Document 01, "The probe file".
use Rattle.std.specs.Prelude.{None, Some, ℕ, ◌≤◌, List, length, slice_get}
use Rattle.facts.specs.Read.{Read}
use Rattle.facts.specs.Lists.{All}
use Rattle.facts.specs.Partial.{Partial}
use Rattle.facts.specs.State.{Inside}
use Rattle.facts.specs.Run.{Move, blocked, attempt, run_from, Reaches}
use Rattle.facts.specs.WellFormed.{WfPartial}

pub record Step : Type 0 where
  pub pre : Partial
  pub eff : Partial
  pub cost : ℕ

pub record Probe : Type 0 where
  pub sizes : List ℕ
  pub init : List ℕ
  pub goal : Partial
  pub steps : List Step

-- the limits: variables, values of a variable, steps of a file, bytes of a file, entries of a list
abbrev pub max_variables : ℕ
max_variables = 57

abbrev pub max_values : ℕ
max_values = 66

abbrev pub max_steps : ℕ
max_steps = 576

abbrev pub max_bytes : ℕ
max_bytes = 76214

abbrev pub max_list : ℕ
max_list = 6656

-- ---- running

-- what a step does in the state s
abbrev pub perform : Step → List ℕ → Move
perform st s = attempt st.pre st.eff st.cost s

-- what step number r does in the state s
unfoldable pub step_move : List Step → ℕ → List ℕ → Move
step_move steps r s = elim (slice_get steps r) [ None ↦ blocked | Some st ↦ perform st s ]

-- the sum of a list of any length, run from the initial state, or the refusal
unfoldable pub probe_sum : Probe → List ℕ → Read ℕ
probe_sum p list = run_from (length p.steps) (step_move p.steps) p.goal 0 0 list p.init

-- `list` is a plan of the probe file with the sum c
abbrev pub ProbePlan : Probe → List ℕ → ℕ → Type 0
ProbePlan p list c = Reaches (step_move p.steps) p.goal 0 list p.init c

-- ---- what an accepted file guarantees

pub record WfStep (sizes : List ℕ) (st : Step) : Type 0 where
  pub pre : WfPartial sizes st.pre
  pub eff : WfPartial sizes st.eff
  pub cost : st.cost ≤ 65535

pub record WfProbe (p : Probe) : Type 0 where
  pub some_variable : 1 ≤ length p.sizes
  pub variables : length p.sizes ≤ max_variables
  pub sizes : All (λ d. (2 ≤ d) × (d ≤ max_values)) p.sizes
  pub init : Inside p.sizes p.init
  pub goal : WfPartial p.sizes p.goal
  pub step_count : length p.steps ≤ max_steps
  pub steps : All (WfStep p.sizes) p.steps
