use Prim.Native.Nat.{◌+◌, ◌≤◌}
use mathlib.Core.Path.{◌≡◌}
use lib.Count.{ones}
use lib.ListN.{length}
use Rattle.partial.proofs.Loops.{Rest}
use Rattle.partial.proofs.values_whole.Given as goal

abbrev pub invariant-loop-v : goal.invariant-loop-v
invariant-loop-v l =
    (goal.iterator-loop-v).can_next l.v-iterator × (goal.iterator-loop-v).is_finite l.v-iterator
    × (l.at + ones l.v-iterator.rest ≤ length l.file) × (l.v-iterator.rest ≤ l.map) × (Rest l.file l.sizes l.map l.from ≡ Rest l.file l.sizes l.v-iterator.rest l.at)
