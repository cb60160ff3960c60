-- What a carried list is carried back to: laws that the statement of demand 2 on plans carried across and back rests on.
use Rattle.std.specs.Prelude.{◌≡◌, ℕ, ◌≤◌, length}
use Rattle.std.proofs.Common.{sym, ap, ◌∙◌}
use mathlib.Core.List.{List}
use Rattle.facts.specs.Read.{accepted}
use Rattle.facts.specs.ReadLaws.{through, value_of_lem, next_of_lem}
use Rattle.facts.specs.Run.{at_most}
use Rattle.taskfile.specs.Task.{Task, max_list, task_sum, Plan}
use Rattle.taskfile.specs.TaskFile.{read_task}
use Rattle.taskfile.proofs.TaskReadLaws.{task_wf}
use Rattle.taskfile.specs.TaskLaws.{task_plan}
use Rattle.probefile.specs.Probe.{probe_sum}
use Rattle.probefile.specs.Probe.{max_list as maxProbeList}
use Rattle.probefile.specs.ProbeLaws.{probe_plan}
use Rattle.compilation.specs.Compile.{probe_of}
use Rattle.plans.specs.Carry.{expand, contract}
use Rattle.plans.proofs.Plans.{carries}
use Rattle.carry.specs.CarryFile.{expanded, starts_at_most, contracted}
use Rattle.carry.specs.StartLaws.{starts_kept}
use Rattle.carry.specs.SameSumLaws.{expanded_plan, contracted_plan, fits_inv}

-- ---- what an answer tells

-- a plan of at most 256 actions of the task of f
record PlanOf (f list : List ℕ) (c : ℕ) : Type 0 where
  t : Task
  task : read_task f ≡ accepted t
  plan : Plan t list c
  few : length list ≤ max_list

-- What is expanded is a plan.
expanded_inv : (f list : List ℕ) {probe-list : List ℕ} {c : ℕ} → expanded f list ≡ accepted (probe-list, c) → PlanOf f list c
unfolding expanded
expanded_inv f list {c = c} h =
    let a = through (read_task f) h in
    let b = through (at_most max_list list) a.then in
    let d = through (task_sum a.got list) b.then in
    let sum : d.got ≡ c = next_of_lem d.then in
    record { t = a.got; task = a.first; plan = (task_plan a.got list c).1 (d.first ∙ ap accepted sum); few = fits_inv max_list list b.first }

-- What is contracted comes from the plan that is answered.
contracted_inv : (f probe-list : List ℕ) {list : List ℕ} {c : ℕ} → contracted f probe-list ≡ accepted (list, c) → (q : PlanOf f list c) × (probe-list ≡ expand q.t list)
unfolding contracted contract
contracted_inv f probe-list {list} {c} h =
    let a = through (read_task f) h in
    let t = a.got in
    let b = through (at_most maxProbeList probe-list) a.then in
    let d = through (probe_sum (probe_of t) probe-list) b.then in
    let e = through (starts_at_most t.actions max_list 0 probe-list) d.then in
    let same : contract t probe-list ≡ list = value_of_lem e.then in
    let sum : d.got ≡ c = next_of_lem e.then in
    let from = (carries t (task_wf f a.first)).contracts probe-list c ((probe_plan (probe_of t) probe-list c).1 (d.first ∙ ap accepted sum)) in (
      record { t = t; task = a.first; plan = rw same at from.plan; few = rw same at (starts_kept t.actions probe-list max_list 0 e.first) },
      rw same at from.comes,
    )

-- ---- across and back

-- What expanding a list answers, contracted, answers that list.
pub expanded_back : (f list : List ℕ) {probe-list : List ℕ} {c : ℕ} → expanded f list ≡ accepted (probe-list, c) → contracted f probe-list ≡ accepted (list, c)
expanded_back f list h =
    let q = expanded_inv f list h in
    rw (value_of_lem (sym (expanded_plan f q.task q.plan q.few) ∙ h)) at (contracted_plan f q.task q.plan q.few)

-- What contracting a probe list answers, expanded, answers that probe list.
pub contracted_back : (f probe-list : List ℕ) {list : List ℕ} {c : ℕ} → contracted f probe-list ≡ accepted (list, c) → expanded f list ≡ accepted (probe-list, c)
contracted_back f probe-list h =
    let q = contracted_inv f probe-list h in
    rw q.1 (expanded_plan f q.0.task q.0.plan q.0.few)
