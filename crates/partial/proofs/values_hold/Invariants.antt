use Prim.Native.Nat.{◌+◌, ◌≤◌}
use mathlib.Core.Path.{◌≡◌}
use lib.Count.{ones}
use lib.ListN.{length}
use Rattle.facts.specs.Partial.{holds, standing_at}
use Rattle.partial.proofs.values_hold.Given as goal

abbrev pub invariant-loop-v : goal.invariant-loop-v
invariant-loop-v l =
    (goal.iterator-loop-v).can_next l.v-iterator × (goal.iterator-loop-v).is_finite l.v-iterator
    × (l.at ≤ length l.file) × (l.at + ones l.v-iterator.rest ≡ l.from + ones l.map)
    × (holds (standing_at l.file l.map l.from) l.state ≡ holds (standing_at l.file l.v-iterator.rest l.at) l.state)
