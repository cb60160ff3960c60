-- "Where costs and preconditions share no variable, no cost given moves."
use Rattle.std.specs.Prelude.{◌≡◌, ℕ, min, None}
use mathlib.Core.List.{List, map}
use Rattle.facts.specs.Lists.{At}
use Rattle.value.specs.Value.{value_of}
use Rattle.taskfile.specs.Task.{Node, Action, cost}
use Rattle.relaxation.specs.Least.{least_over}
use Rattle.relaxation.specs.Relaxed.{values_in}

-- What the relaxed cost was before W5 of document 02: the "least cost over all states whose every value is in the sets".
unfoldable pub unrestricted_cost : Action → List ℕ → ℕ
unrestricted_cost x sets = least_over min 0 (map values_in sets) (cost x)

-- the diagram tests no variable of the precondition
abbrev pub Untested : Action → Type 0
Untested x = (j : ℕ) (nd : Node) → At x.nodes j nd → value_of x.pre nd.var ≡ None
