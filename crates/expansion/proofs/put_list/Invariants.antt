use Prim.Native.Nat.{◌*◌, ◌≤◌}
use lib.ListN.{drop}
use Rattle.facts.specs.State.{Inside}
use Rattle.facts.specs.Partial.{partial_at}
use Rattle.taskfile.specs.WalkInPlace.{move_at, max_walk}
use Rattle.taskfile.specs.MoveInPlaceLaws.{Running}
use Rattle.taskfile.specs.PartsInPlace.{actions_in}
use Rattle.facts.specs.WriteRowLaws.{Going}
use Rattle.plans.specs.Carry.{expand_from}
use Rattle.expansion.proofs.put_list.Given as goal

abbrev pub invariant-loop-i : goal.invariant-loop-i
invariant-loop-i l = Inside l.sizes l.state × (l.sum ≤ max_walk * l.i) × Running l.actions (move_at l.file l.row) (partial_at l.file l.goal) l.list l.initial.state l.i l.sum l.state
    × Going (expand_from (actions_in l.file l.sizes l.row 0 l.actions) l.list l.initial.state) (expand_from (actions_in l.file l.sizes l.row 0 l.actions) (drop l.i l.list) l.state) l.initial.out l.out l.written
