use Prim.Native.Nat.{◌+◌, ◌-◌}
use Rattle.taskfile.specs.Task.{max_weight}
use Rattle.relaxation.specs.RelaxedInPlace.{cost_for, greatest, Choosing}
use Rattle.task_relaxed.proofs.relaxed.least_at.Given as goal

abbrev pub invariant-loop-d : goal.invariant-loop-d
invariant-loop-d l = Choosing (cost_for l.file l.node l.least) l.size l.initial.rest 4294967295 (max_weight + greatest l.least) (l.size - l.d) l.d l.rest l.best
