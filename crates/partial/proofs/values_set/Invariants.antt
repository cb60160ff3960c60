use Prim.Native.Nat.{◌+◌, ◌≤◌}
use mathlib.Core.Path.{◌≡◌}
use lib.Count.{ones}
use lib.ListN.{length}
use Rattle.facts.specs.Partial.{apply, standing_at}
use Rattle.partial.proofs.values_set.Given as goal

abbrev pub invariant-loop-v : goal.invariant-loop-v
invariant-loop-v l =
    (goal.iterator-loop-v).can_next l.v-iterator × (goal.iterator-loop-v).is_finite l.v-iterator
    × (l.at ≤ length l.file) × (l.at + ones l.v-iterator.rest ≡ l.from + ones l.map) × (length l.state ≡ length l.initial.state)
    × (apply (standing_at l.file l.map l.from) l.initial.state ≡ apply (standing_at l.file l.v-iterator.rest l.at) l.state)
