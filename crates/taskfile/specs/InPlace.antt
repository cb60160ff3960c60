-- Diagrams in place: what code does that goes over the bytes of a file, without reading it into values, and what the index of a file holds.
use Rattle.std.specs.Prelude.{◌≡◌, ℕ, zero, suc, ◌+◌, ◌≤◌, ◌<◌, List, ltb, length, get_or, set, take}
use Rattle.facts.specs.Read.{Read, accepted, check, with_value, ◌>>=◌}
use Rattle.facts.specs.Lists.{total, up_from, At}
use Rattle.facts.specs.Partial.{past_partial}
use Rattle.facts.specs.Fields.{each, next_of}
use Rattle.taskfile.specs.Task.{Node, Action, Task, max_nodes}
use Rattle.taskfile.specs.TaskFile.{edge_bytes, read_node, read_nodes, read_diagram, read_action, read_actions, read_task}
use Rattle.taskfile.specs.Row.{effects_from, incoming_from, firsts_from, own_from}
use Rattle.taskfile.specs.Blank.{file_of}
use Rattle.taskfile.specs.WalkInPlace.{incoming_place}
use Rattle.taskfile.specs.PartsInPlace.{Tested}

-- ---- the variables along the edges, by a row that has the variable of each node by its number

-- what stands in the row for the terminal
abbrev pub terminal_level : ℕ
terminal_level = 255

module _ (f levels : List ℕ) where
  -- each of the `count` targets from an offset on has a variable above v, else 6 at the target's byte
  unfoldable pub targets_rise : ℕ → ℕ → ℕ → Read (Unit {0})
  targets_rise v zero at = accepted tt
  targets_rise v (suc count) at = do
    _ ← check (ltb v (get_or levels (get_or f at 0) terminal_level)) 6 at
    targets_rise v count (at + edge_bytes)

-- the same for the edges of each of `count` nodes at these offsets, the first of which has the index j
module _ (f sizes offsets levels : List ℕ) where
  unfoldable pub nodes_rise : ℕ → ℕ → Read (Unit {0})
  nodes_rise j zero = accepted tt
  nodes_rise j (suc count) = do
    _ ← targets_rise f levels (get_or f (get_or offsets j 0) 0) (get_or sizes (get_or f (get_or offsets j 0) 0) 0) (get_or offsets j 0 + 1)
    nodes_rise (suc j) count

-- The variable of each of m nodes that begin at these offsets is noted 64 entries behind its offset, and in `levels` by its number; for each number past them `levels` has the terminal's.
pub record Levels (f : List ℕ) (m : ℕ) (offsets levels : List ℕ) : Type 0 where
  pub tested : Tested f offsets m
  pub own : (j : ℕ) → j < m → get_or levels (1 + j) terminal_level ≡ get_or f (get_or offsets j 0) 0
  pub terminal : (k : ℕ) → m < k → get_or levels k terminal_level ≡ terminal_level

-- ---- what the index holds

-- the first j nodes of a diagram that has m
unfoldable pub read_first : List ℕ → List ℕ → ℕ → ℕ → ℕ → Read (List Node × ℕ)
read_first f sizes m j at = each (read_node f sizes m) (up_from 1 j) at

-- `offsets` has, where each of the m nodes from an offset on is accepted, the offset of each
pub record Marked (f sizes : List ℕ) (m from : ℕ) (offsets : List ℕ) : Type 0 where
  pub marks : {end : ℕ} → next_of (read_nodes f sizes m from) ≡ accepted end → (j : ℕ) → j < m → next_of (read_first f sizes m j from) ≡ accepted (get_or offsets j 0)

-- the offset past a diagram with at most `left` nodes, and how many it has
unfoldable pub diagram_at : List ℕ → List ℕ → ℕ → ℕ → Read (ℕ × ℕ)
diagram_at f sizes left at = with_value (λ p. (p.1, length p.0)) (read_diagram f sizes left at)

-- The list of node offsets and, 64 entries behind each, the variable that the node tests, which was `before` and is `after`: the nodes of the diagram at an offset, if it is accepted,
-- are noted from index `used` on, and what was noted before is kept.
pub record Placed (f sizes : List ℕ) (left at used : ℕ) (before after : List ℕ) : Type 0 where
  pub kept : (j : ℕ) → j < used → get_or after j 0 ≡ get_or before j 0
  pub kept_tested : (j : ℕ) → used + left ≤ j → j < used + max_nodes → get_or after j 0 ≡ get_or before j 0
  pub lies : (nodes : List Node) (end : ℕ) → read_diagram f sizes left at ≡ accepted (nodes, end) → (j : ℕ) (nd : Node) → At nodes j nd
      → (next : ℕ) × (read_node f sizes (length nodes) (suc j) (get_or after (used + j) 0) ≡ accepted (nd, next))
  pub tested : (nodes : List Node) (end : ℕ) → read_diagram f sizes left at ≡ accepted (nodes, end) → (j : ℕ) (nd : Node) → At nodes j nd → get_or after (used + (max_nodes + j)) 0 ≡ nd.var

-- ---- actions

-- the offset past an action with at most `left` nodes, and how many it has
unfoldable pub action_at : List ℕ → List ℕ → ℕ → ℕ → Read (ℕ × ℕ)
action_at f sizes left at = with_value (λ p. (p.1, length p.0.nodes)) (read_action f sizes left at)

-- The same list, which was `before` and is `after`: the same as for a diagram, for the action at an offset.
pub record ActionPlaced (f sizes : List ℕ) (left at used : ℕ) (before after : List ℕ) : Type 0 where
  pub kept : (j : ℕ) → j < used → get_or after j 0 ≡ get_or before j 0
  pub kept_tested : (j : ℕ) → used + left ≤ j → j < used + max_nodes → get_or after j 0 ≡ get_or before j 0
  pub lies : (x : Action) (end : ℕ) → read_action f sizes left at ≡ accepted (x, end) → (j : ℕ) (nd : Node) → At x.nodes j nd
      → (next : ℕ) × (read_node f sizes (length x.nodes) (suc j) (get_or after (used + j) 0) ≡ accepted (nd, next))
  pub tested : (x : Action) (end : ℕ) → read_action f sizes left at ≡ accepted (x, end) → (j : ℕ) (nd : Node) → At x.nodes j nd → get_or after (used + (max_nodes + j)) 0 ≡ nd.var

-- the action x is read at an offset, and its nodes at the offsets from index `first` on; 64 entries behind each is the variable that it tests
pub record Lies (f sizes : List ℕ) (x : Action) (at first : ℕ) (nodes : List ℕ) : Type 0 where
  pub left : ℕ
  pub next : ℕ
  pub action : read_action f sizes left at ≡ accepted (x, next)
  pub node : (j : ℕ) (nd : Node) → At x.nodes j nd → (end : ℕ) × (read_node f sizes (length x.nodes) (suc j) (get_or nodes (first + j) 0) ≡ accepted (nd, end))
  pub tested : (j : ℕ) (nd : Node) → At x.nodes j nd → get_or nodes (first + (max_nodes + j)) 0 ≡ nd.var

-- the row with the places of effect and incoming weight of action a, which begins at an offset
abbrev pub front_noted : List ℕ → ℕ → ℕ → List ℕ → List ℕ
front_noted f at a places = set (set places (effects_from + a) (past_partial f at)) (incoming_from + a) (incoming_place f at)

-- the row has them for each of the first `count` actions
pub record Fronts (f : List ℕ) (count : ℕ) (places : List ℕ) : Type 0 where
  pub effect : (a : ℕ) → a < count → get_or places (effects_from + a) 0 ≡ past_partial f (get_or places a 0)
  pub incoming : (a : ℕ) → a < count → get_or places (incoming_from + a) 0 ≡ incoming_place f (get_or places a 0)

-- how many nodes the actions before number a have
abbrev pub nodes_before : List Action → ℕ → ℕ
nodes_before actions a = total (λ x. length x.nodes) (take a actions)

-- the same for each of the `count` actions from an offset on, where all are accepted; an action's first node comes after the nodes of those before it
pub record Listed (f sizes : List ℕ) (count from : ℕ) (row : List ℕ) : Type 0 where
  pub lies : (xs : List Action) (end : ℕ) → read_actions f sizes count max_nodes from ≡ accepted (xs, end) → (a : ℕ) (x : Action) → At xs a x
      → Lies f sizes x (get_or row a 0) (own_from row a) row
  pub first_is : (xs : List Action) (end : ℕ) → read_actions f sizes count max_nodes from ≡ accepted (xs, end) → (a : ℕ) (x : Action) → At xs a x → get_or row (firsts_from + a) 0 ≡ nodes_before xs a

-- ---- a whole file

-- how many variables and how many actions a task has
abbrev pub counts : Task → ℕ × ℕ
counts t = (length t.sizes, length t.actions)

-- those of the file's
unfoldable pub task_at : List ℕ → Read (ℕ × ℕ)
task_at f = with_value counts (read_task f)

-- the offset of each action of the task in these bytes, the number of its first node among all nodes, and the offset and the variable of each node
pub record Located (f row : List ℕ) : Type 0 where
  pub lies : (t : Task) → read_task (file_of f) ≡ accepted t → (a : ℕ) (x : Action) → At t.actions a x → Lies f t.sizes x (get_or row a 0) (own_from row a) row
  pub first_is : (t : Task) → read_task (file_of f) ≡ accepted t → (a : ℕ) (x : Action) → At t.actions a x → get_or row (firsts_from + a) 0 ≡ nodes_before t.actions a
