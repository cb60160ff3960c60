use mathlib.Core.Path.{◌≡◌}
use lib.ListN.{length, drop}
use Rattle.facts.specs.State.{check_values}
use Rattle.relaxation.specs.RelaxedTask.{good_set, check_relaxed}
use Rattle.task_relaxed.proofs.relaxed.check_sets.Given as goal

abbrev pub invariant-loop-v : goal.invariant-loop-v
invariant-loop-v l = (length l.sets ≡ length l.sizes) × (check_relaxed l.sizes l.sets ≡ check_values good_set l.v (drop l.v l.sizes) (drop l.v l.sets))
