use mathlib.Core.Path.{◌≡◌}
use Rattle.partial.proofs.Loops.{Rest}
use Rattle.partial.proofs.values_cut.Given as goal

abbrev pub invariant-loop-v : goal.invariant-loop-v
invariant-loop-v l =
    (goal.iterator-loop-v).can_next l.v-iterator × (goal.iterator-loop-v).is_finite l.v-iterator
    × (Rest l.file l.sizes l.map l.from ≡ Rest l.file l.sizes l.v-iterator.rest l.at)
