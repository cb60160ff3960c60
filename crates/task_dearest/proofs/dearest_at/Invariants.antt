use Prim.Native.Nat.{◌*◌, ◌-◌, ◌≤◌}
use mathlib.Core.Path.{◌≡◌}
use lib.ListN.{length}
use Rattle.taskfile.specs.Task.{max_weight, max_numbers}
use Rattle.relaxation.specs.RelaxedInPlace.{greatest}
use Rattle.dearest.specs.InPlace.{Table}
use Rattle.task_dearest.proofs.dearest_at.Given as goal

abbrev pub invariant-loop-k : goal.invariant-loop-k
invariant-loop-k l = record {
  long : length l.table ≡ max_numbers;
  most : greatest l.table ≤ max_weight * (l.diagram.count - l.k);
  filled : Table l.file l.sizes l.at l.nodes l.k l.table;
}
