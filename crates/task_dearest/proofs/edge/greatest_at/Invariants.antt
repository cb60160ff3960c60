use Prim.Native.Nat.{◌+◌, ◌≤◌}
use Rattle.taskfile.specs.Task.{max_weight}
use Rattle.relaxation.specs.RelaxedInPlace.{cost_for, greatest}
use Rattle.dearest.specs.InPlaceLaws.{Choosing}
use Rattle.task_dearest.proofs.edge.greatest_at.Given as goal

abbrev pub invariant-loop-d : goal.invariant-loop-d
invariant-loop-d l = Choosing (cost_for l.file l.node l.table) l.size l.d l.most × (l.most ≤ max_weight + greatest l.table)
