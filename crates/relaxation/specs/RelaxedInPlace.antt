-- The relaxed cost in place: what code does that goes over the bytes of a task file, with a table of the least from each later node on.
use Rattle.std.specs.Prelude.{◌≡◌, ℕ, ◌+◌, ◌*◌, ◌≤◌, min, max, List, [], ◌∷◌, map, get_or}
use Rattle.facts.specs.Lists.{All}
use Rattle.taskfile.specs.Task.{max_values, max_nodes, WfAction}
use Rattle.taskfile.specs.TaskFile.{edge_bytes}
use Rattle.taskfile.specs.WalkInPlace.{node_count}
use Rattle.taskfile.specs.PartsInPlace.{edge_in, action_in}
use Rattle.relaxation.specs.Least.{least_of}
use Rattle.relaxation.specs.Relaxed.{values_from, RelaxedInside}

-- by the edge, for the value d, of the node at an offset
abbrev pub cost_for : List ℕ → ℕ → List ℕ → ℕ → ℕ
cost_for f node table d = let e = edge_in f (node + (1 + edge_bytes * d)) in e.weight + get_or table e.target 0

-- the greatest entry of a table
abbrev pub greatest : List ℕ → ℕ
greatest [] = 0
greatest (x ∷ xs) = max x (greatest xs)

-- Where a choice of the least stands among the values of a set, of `size` at most: `best` so far, which was `top` at first, and the values of `rest`
-- from d on, `n` at most. What is chosen from costs at most b.
pub record Choosing (costOf : ℕ → ℕ) (size set top b : ℕ) (n d rest best : ℕ) : Type 0 where
  pub left : least_of min 0 (top ∷ map costOf (values_from size 0 set)) ≡ least_of min 0 (best ∷ map costOf (values_from n d rest))
  pub chosen : values_from n d rest ≡ [] → best ≤ b

-- The action at an offset, whose own nodes begin at these offsets, is one of an accepted file with these domain sizes, and the relaxed state fits them.
pub record Relaxable (f sizes : List ℕ) (at : ℕ) (offsets sets : List ℕ) : Type 0 where
  pub wf : WfAction sizes (action_in f sizes at offsets)
  pub small : All (λ d. d ≤ max_values) sizes
  pub few : node_count f at ≤ max_nodes
  pub inside : RelaxedInside sizes sets
