use Prim.Native.Nat.{◌+◌, ◌≤◌}
use mathlib.Core.Path.{◌≡◌}
use lib.ListN.{length}
use Rattle.dearest.specs.InPlace.{Drawn}
use Rattle.dearest.specs.InPlaceLaws.{Walking}
use Rattle.task_dearest.proofs.state.Course.put_state.Given as goal

abbrev pub invariant-loop-v : goal.invariant-loop-v
invariant-loop-v l = record {
  wide : length l.state ≡ length l.self.sizes.now;
  number : (1 ≤ l.k) × (l.k ≤ l.self.count + 1);
  walking : (drawn : Drawn l.self.file.now l.self.sizes.now l.self.at l.self.nodes.now) → Walking drawn l.k l.v l.state;
}
