use Prim.Native.Nat.{◌*◌, ◌≤◌}
use mathlib.Core.Path.{◌≡◌}
use lib.ListN.{length, drop}
use Rattle.facts.specs.Partial.{partial_at}
use Rattle.facts.specs.Run.{run_from}
use Rattle.probefile.specs.InPlace.{move_at}
use Rattle.probe.proofs.run_list.Given as goal

abbrev pub invariant-loop-i : goal.invariant-loop-i
invariant-loop-i l = (length l.state ≡ length l.initial.state) × (l.sum ≤ 65535 * l.i)
    × (run_from (length l.offsets) (move_at l.file l.offsets) (partial_at l.file l.goal) 0 0 l.list l.initial.state ≡ run_from (length l.offsets) (move_at l.file l.offsets) (partial_at l.file l.goal) l.i l.sum (drop l.i l.list) l.state)
