-- The parts of a task in place: what code works from that goes over the bytes of an accepted file, without reading it into values.
use Rattle.std.specs.Prelude.{◌≡◌, ℕ, zero, suc, ◌+◌, ◌*◌, ◌^◌, ◌≤◌, ◌<◌, List, [], ◌∷◌, length, get_or, drop}
use Rattle.facts.specs.Partial.{partial_bytes, partial_at, past_partial}
use Rattle.facts.specs.Fields.{word_at}
use Rattle.taskfile.specs.Task.{Edge, Node, Action, max_nodes}
use Rattle.taskfile.specs.TaskFile.{edge_bytes}
use Rattle.taskfile.specs.Row.{own_from}
use Rattle.taskfile.specs.WalkInPlace.{incoming_place, node_count}

-- the file f
module _ (f : List ℕ) where
  -- the edge at an offset
  abbrev pub edge_in : ℕ → Edge
  edge_in at = record { target = get_or f at 0; weight = word_at f (at + 1) }

  -- `count` edges from an offset on
  abbrev pub edges_in : ℕ → ℕ → List Edge
  edges_in at zero = []
  edges_in at (suc count) = edge_in at ∷ edges_in (at + edge_bytes) count

  -- the node at an offset
  abbrev pub node_in : List ℕ → ℕ → Node
  node_in sizes at = record { var = get_or f at 0; edges = edges_in (at + 1) (get_or sizes (get_or f at 0) 0) }

  -- `count` nodes, at the offsets from index j on
  abbrev pub nodes_in : List ℕ → List ℕ → ℕ → ℕ → List Node
  nodes_in sizes offsets j zero = []
  nodes_in sizes offsets j (suc count) = node_in sizes (get_or offsets j 0) ∷ nodes_in sizes offsets (suc j) count

  -- the action at an offset, whose own nodes begin at these offsets
  abbrev pub action_in : List ℕ → ℕ → List ℕ → Action
  action_in sizes at offsets = record {
    pre = partial_at f at;
    eff = partial_at f (past_partial f at);
    incoming = word_at f (incoming_place f at);
    nodes = nodes_in sizes offsets 0 (node_count f at);
  }

  -- `count` actions from number a on, by the row of the index
  abbrev pub actions_in : List ℕ → List ℕ → ℕ → ℕ → List Action
  actions_in sizes row a zero = []
  actions_in sizes row a (suc count) = action_in sizes (get_or row a 0) (drop (own_from row a) row) ∷ actions_in sizes row (suc a) count

  -- The partial state at an offset ends within the file and has facts of the first n variables only.
  pub record Stands (n at : ℕ) : Type 0 where
    pub fits : at + partial_bytes (partial_at f at) ≤ length f
    pub below : (partial_at f at).map < 2 ^ n

  -- the node at an offset ends within the file, with an edge for each value, and tests one of the variables
  pub record Tests (sizes : List ℕ) (at : ℕ) : Type 0 where
    pub fits : at + (1 + edge_bytes * get_or sizes (get_or f at 0) 0) ≤ length f
    pub below : get_or f at 0 < length sizes

  -- 64 entries behind the offset of each of `count` nodes is the variable that it tests
  pub record Tested (offsets : List ℕ) (count : ℕ) : Type 0 where
    pub variable : (j : ℕ) → j < count → get_or offsets (max_nodes + j) 0 ≡ get_or f (get_or offsets j 0) 0

  -- the action at an offset, whose own nodes begin at these offsets, is one of an accepted file
  pub record Stood (sizes : List ℕ) (at : ℕ) (offsets : List ℕ) : Type 0 where
    pub pre : Stands (length sizes) at
    pub eff : Stands (length sizes) (past_partial f at)
    pub few : node_count f at ≤ max_nodes
    pub nodes : (j : ℕ) → j < node_count f at → Tests sizes (get_or offsets j 0)
    pub tested : Tested offsets (node_count f at)
