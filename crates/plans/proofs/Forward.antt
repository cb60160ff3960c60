-- The expansion of a source plan is a plan of the compiled task, with the same sum.
use Rattle.std.specs.Prelude.{ℕ, List}
use Rattle.taskfile.specs.Task.{Task, Plan, WfTask}
use Rattle.probefile.specs.Probe.{ProbePlan}
use Rattle.compilation.specs.Compile.{probe_of}
use Rattle.plans.specs.Carry.{expand}
use Rattle.plans.specs.Forward.{forward_from}

-- the probe list that comes from a source plan is a probe plan with the same sum
pub forward : (t : Task) → WfTask t → (list : List ℕ) (c : ℕ) → Plan t list c → ProbePlan (probe_of t) (expand t list) c
unfolding probe_of expand
forward t wf list c p = forward_from t list t.init 0 c (record { wf = wf; inside = wf.init }) p
