-- The dearest state in place: what code goes by that passes over the bytes of a task file, with a table of the greatest from each later number on.
use Rattle.std.specs.Prelude.{◌≡◌, ℕ, ◌+◌, ◌*◌, ◌≤◌, ◌<◌, List, length, get_or}
use Rattle.facts.specs.Lists.{All}
use Rattle.taskfile.specs.Task.{max_nodes, max_numbers, max_weight, WfAction}
use Rattle.taskfile.specs.TaskFile.{edge_bytes}
use Rattle.taskfile.specs.WalkInPlace.{node_count}
use Rattle.taskfile.specs.PartsInPlace.{edge_in, action_in, Tests}
use Rattle.relaxation.specs.Pass.{Filled}
use Rattle.relaxation.specs.RelaxedInPlace.{greatest}
use Rattle.dearest.specs.ByWalk.{greatest_pass}

-- The action at an offset, whose own nodes begin at these offsets, is one of an accepted file with these domain sizes.
pub record Drawn (f sizes : List ℕ) (at : ℕ) (offsets : List ℕ) : Type 0 where
  pub wf : WfAction sizes (action_in f sizes at offsets)
  pub some_value : All (λ d. 0 < d) sizes
  pub few : node_count f at ≤ max_nodes
  pub tests : (j : ℕ) → j < node_count f at → Tests f sizes (get_or offsets j 0)

-- no sum of a weight and an entry of the table is large
pub record Low (table : List ℕ) : Type 0 where
  pub all : length table ≡ max_numbers
  pub low : greatest table ≤ max_weight * max_nodes

-- The node at an offset has `size` edges: they end within the file, and each leads to a number that the table has.
pub record Edges (f : List ℕ) (node size : ℕ) : Type 0 where
  pub fits : node + (1 + edge_bytes * size) ≤ length f
  pub within : (d : ℕ) → d < size → (edge_in f (node + (1 + edge_bytes * d))).target < max_numbers

-- The table has the greatest from each number above k on.
abbrev pub Table : List ℕ → List ℕ → ℕ → List ℕ → ℕ → List ℕ → Type 0
Table f sizes at offsets k table = Filled (greatest_pass sizes) (λ n. n) (action_in f sizes at offsets).nodes k table

-- such an action with `count` nodes, and the whole table
pub record Tabled (f sizes : List ℕ) (at : ℕ) (offsets : List ℕ) (count : ℕ) (table : List ℕ) : Type 0 where
  pub drawn : Drawn f sizes at offsets
  pub count_is : count ≡ node_count f at
  pub low : Low table
  pub full : Table f sizes at offsets 0 table
