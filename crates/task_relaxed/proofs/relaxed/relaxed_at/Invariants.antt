use Prim.Native.Nat.{◌*◌, ◌-◌, ◌≤◌}
use mathlib.Core.Path.{◌≡◌}
use lib.ListN.{length}
use Rattle.taskfile.specs.Task.{max_weight, max_numbers}
use Rattle.taskfile.specs.PartsInPlace.{action_in}
use Rattle.relaxation.specs.Pass.{Filled}
use Rattle.relaxation.specs.RelaxedPass.{relaxed_pass}
use Rattle.relaxation.specs.RelaxedInPlace.{greatest}
use Rattle.task_relaxed.proofs.relaxed.relaxed_at.Given as goal

abbrev pub invariant-loop-k : goal.invariant-loop-k
invariant-loop-k l = record {
  long : length l.least ≡ max_numbers;
  most : greatest l.least ≤ max_weight * (l.diagram.count - l.k);
  filled : Filled (relaxed_pass l.sets) (λ n. n) (action_in l.file l.sizes l.at l.nodes).nodes l.k l.least;
}
