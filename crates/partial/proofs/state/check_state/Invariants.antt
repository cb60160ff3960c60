use mathlib.Core.Path.{◌≡◌}
use lib.Dec.{ltb}
use lib.ListN.{length, drop}
use Rattle.facts.specs.State.{check_values, check_state}
use Rattle.partial.proofs.state.check_state.Given as goal

abbrev pub invariant-loop-v : goal.invariant-loop-v
invariant-loop-v l = (length l.state ≡ length l.sizes) × (check_state l.sizes l.state ≡ check_values (λ d x. ltb x d) l.v (drop l.v l.sizes) (drop l.v l.state))
