use Prim.Native.Nat.{◌*◌, ◌≤◌}
use mathlib.Core.Path.{◌≡◌}
use lib.ListN.{length}
use Rattle.facts.specs.Partial.{partial_at}
use Rattle.taskfile.specs.WalkInPlace.{move_at, passes_at, max_passed, max_walk}
use Rattle.taskfile.specs.MoveInPlaceLaws.{Running}
use Rattle.walk.proofs.action.run_list.Given as goal

abbrev pub invariant-loop-i : goal.invariant-loop-i
invariant-loop-i l = (length l.state ≡ length l.initial.state) × (l.sum ≤ max_walk * l.i) × (l.passed ≤ max_passed * l.i)
    × Running l.count (move_at l.file l.row) (partial_at l.file l.goal) l.list l.initial.state l.i l.sum l.state
    × Running l.count (passes_at l.file l.row) (partial_at l.file l.goal) l.list l.initial.state l.i l.passed l.state
