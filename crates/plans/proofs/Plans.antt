-- Demand 3 over values: the theorem, for every well-formed task, plans of any length, sums in ℕ. What it says is in specs/Plans.antt.
use Rattle.std.specs.Prelude.{◌≡◌, ℕ, List}
use Rattle.std.proofs.Common.{sym, ap, ◌∙◌}
use Rattle.taskfile.specs.Task.{Task, Plan, WfTask}
use Rattle.probefile.specs.Probe.{ProbePlan}
use Rattle.compilation.specs.Compile.{probe_of}
use Rattle.plans.specs.Carry.{expand, contract}
use Rattle.plans.proofs.Forward.{forward}
use Rattle.plans.proofs.Backward.{backward}
use Rattle.plans.proofs.Contract.{contract_expand}
use Rattle.plans.specs.Plans.{Source, Carries}

source : (t : Task) → WfTask t → (probe-list : List ℕ) (c : ℕ) → ProbePlan (probe_of t) probe-list c → Source t probe-list c
source t wf probe-list c p =
    let q = backward t wf probe-list c p in
    let back : (other : List ℕ) (k : ℕ) → Plan t other k → probe-list ≡ expand t other → other ≡ contract t probe-list =
    λ other k r e. sym (contract_expand t wf other k r) ∙ ap (contract t) (sym e) in
    let same = back q.list c q.plan q.expands in
    record { comes = q.expands ∙ ap (expand t) same; plan = rw same at q.plan; only = back }

pub carries : (t : Task) → WfTask t → Carries t
carries t wf = record {
  expands = forward t wf;
  returns = contract_expand t wf;
  contracts = source t wf;
  within = λ bound. (
    λ p. (expand t p.0, p.1, forward t wf p.0 p.1 p.2, p.3),
    λ p. let q = source t wf p.0 p.1 p.2 in (contract t p.0, p.1, q.plan, p.3),
  );
}
