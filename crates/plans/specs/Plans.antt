-- Demand 3 over values, as one statement about whole plans: for every well-formed task, plans of any length, sums in ℕ. The theorem is in proofs/Plans.antt.
use Rattle.std.specs.Prelude.{◌≡◌, ◌↔◌, ℕ, ◌≤◌, List}
use Rattle.taskfile.specs.Task.{Task, Plan}
use Rattle.probefile.specs.Probe.{ProbePlan}
use Rattle.compilation.specs.Compile.{probe_of}
use Rattle.plans.specs.Carry.{expand, contract}

-- the probe list comes from exactly one source plan, the one that contracting gives, and that plan's sum is c
pub record Source (t : Task) (probe-list : List ℕ) (c : ℕ) : Type 0 where
  pub comes : probe-list ≡ expand t (contract t probe-list)
  pub plan : Plan t (contract t probe-list) c
  pub only : (other : List ℕ) (k : ℕ) → Plan t other k → probe-list ≡ expand t other → other ≡ contract t probe-list

-- some list is a plan with a sum of at most the bound
abbrev pub Within : (List ℕ → ℕ → Type 0) → ℕ → Type 0
Within P bound = (list : List ℕ) × (c : ℕ) × P list c × (c ≤ bound)

-- Plans are carried across at the same sum. The probe list that comes from a source plan is a probe plan, and contracting it gives the source
-- plan back. Each probe plan comes from exactly one source plan. Under each bound there is a plan on both sides or on neither.
pub record Carries (t : Task) : Type 0 where
  pub expands : (list : List ℕ) (c : ℕ) → Plan t list c → ProbePlan (probe_of t) (expand t list) c
  pub returns : (list : List ℕ) (c : ℕ) → Plan t list c → contract t (expand t list) ≡ list
  pub contracts : (probe-list : List ℕ) (c : ℕ) → ProbePlan (probe_of t) probe-list c → Source t probe-list c
  pub within : (bound : ℕ) → Within (Plan t) bound ↔ Within (ProbePlan (probe_of t)) bound
