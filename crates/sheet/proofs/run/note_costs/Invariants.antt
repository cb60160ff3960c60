use Rattle.std.proofs.Common.{◌≡◌, ◌≤◌, ◌*◌, length}
use Rattle.facts.specs.Partial.{partial_at}
use Rattle.taskfile.specs.WalkInPlace.{move_at, max_walk}
use Rattle.taskfile.specs.MoveInPlaceLaws.{Running}
use Rattle.sheet.specs.CostLaws.{Noting}
use Rattle.sheet.proofs.run.note_costs.Given as goal

abbrev pub invariant-loop-i : goal.invariant-loop-i
invariant-loop-i l = (length l.state ≡ length l.initial.state) × (l.sum ≤ max_walk * l.i)
    × Running l.count (move_at l.file l.row) (partial_at l.file l.goal) l.list l.initial.state l.i l.sum l.state
    × Noting l.count (move_at l.file l.row) l.list l.initial.state l.i l.state l.initial.costs l.costs
