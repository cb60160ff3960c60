-- The least cost of an action by the old numbers, and the actions of a task for the heuristic, in place.
use Rattle.std.specs.Prelude.{ℕ, suc, ◌+◌, ◌*◌, ◌≤◌, ◌<◌, List, map, length, get_or, drop}
use Rattle.facts.specs.Partial.{partial_at}
use Rattle.facts.specs.WellFormed.{WfPartial}
use Rattle.estimate.specs.Number.{Number, capped, sum, ranked}
use Rattle.estimate.specs.Facts.{most_values}
use Rattle.estimate.specs.Additive.{Achiever}
use Rattle.estimate.specs.Ranks.{Roomy}
use Rattle.taskfile.specs.Task.{max_variables, max_nodes, WfAction}
use Rattle.taskfile.specs.TaskFile.{edge_bytes}
use Rattle.taskfile.specs.Row.{own_from}
use Rattle.taskfile.specs.WalkInPlace.{node_count}
use Rattle.taskfile.specs.PartsInPlace.{edge_in, node_in, action_in, actions_in}
use Rattle.relaxation.specs.Pass.{edge_for}
use Rattle.relaxation.specs.Estimate.{action_achiever}
use Rattle.relaxation.specs.EstimatePass.{least_cost_by_pass}

-- by the edge, for the value d of its variable v, of the node at an offset; a table has the ranks of the least from each later node on
abbrev pub number_for : List ℕ → ℕ → (ℕ → ℕ → Number) → ℕ → List ℕ → ℕ → Number
number_for f node of v table d = let e = edge_in f (node + (1 + edge_bytes * d)) in sum (capped e.weight) (sum (of v d) (ranked (get_or table e.target 0)))

-- the action at an offset, for the heuristic
abbrev pub achiever_in : List ℕ → List ℕ → ℕ → List ℕ → Achiever
achiever_in f sizes at offsets = action_achiever least_cost_by_pass sizes (action_in f sizes at offsets)

-- `count` actions from number a on, by the row of the index
abbrev pub achievers_in : List ℕ → List ℕ → List ℕ → ℕ → ℕ → List Achiever
achievers_in f sizes row a count = map (action_achiever least_cost_by_pass sizes) (actions_in f sizes row a count)

-- an action that stands in an accepted file with these domain sizes: within the file, well-formed, and with few nodes
pub record Priceable (f sizes : List ℕ) (at : ℕ) (offsets : List ℕ) : Type 0 where
  pub fits : at ≤ length f
  pub wf : WfAction sizes (action_in f sizes at offsets)
  pub few : node_count f at ≤ max_nodes

-- nodes that begin at these offsets are few, and each of their edges leads to a higher number
pub record Climbing (f sizes offsets : List ℕ) (count : ℕ) : Type 0 where
  pub few : count ≤ max_nodes
  pub above : (j : ℕ) → j < count → (d : ℕ) → d < get_or sizes (get_or f (get_or offsets j 0) 0) 0 → suc j < (edge_for (node_in f sizes (get_or offsets j 0)) d).target

-- an array of ranks has room for so many facts, those of 24 variables
abbrev pub task_facts : ℕ
task_facts = max_variables * most_values

-- Domain sizes, goal and actions as they stand in a file, well-formed, so that offers in turn end on their estimate; the actions by the row of the index.
pub record Estimable (f sizes : List ℕ) (goal count : ℕ) (row : List ℕ) : Type 0 where
  pub room : Roomy sizes task_facts
  pub goal_is : WfPartial sizes (partial_at f goal)
  pub long : count ≤ length row
  pub action : (a : ℕ) → a < count → Priceable f sizes (get_or row a 0) (drop (own_from row a) row)
