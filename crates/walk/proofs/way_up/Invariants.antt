use Prim.Native.Nat.{suc, ◌+◌, ◌*◌, ◌-◌, ◌≤◌}
use mathlib.Core.Path.{◌≡◌}
use Rattle.taskfile.specs.WalkInPlace.{way_from}
use Rattle.walk.proofs.way_up.Given as goal

abbrev pub invariant-loop-k : goal.invariant-loop-k
invariant-loop-k l = (l.passed + 1 ≤ l.k) × (l.passed ≤ l.count) × (l.cost ≤ 65535 * l.passed)
    × ((way_from l.file l.nodes l.count l.state 1).cost ≡ l.cost + (way_from l.file l.nodes l.count l.state l.k).cost)
    × ((way_from l.file l.nodes l.count l.state 1).passed ≡ l.passed + (way_from l.file l.nodes l.count l.state l.k).passed)

abbrev pub decreases-loop-k : goal.decreases-loop-k
decreases-loop-k l = suc l.count - l.k
