-- Walks and moves in place: what code does that goes over the bytes of a task file, without reading it into values.
use Rattle.std.specs.Prelude.{ℕ, zero, suc, ◌+◌, ◌*◌, ◌-◌, true, false, List, leb, ltb, get_or, drop}
use Rattle.facts.specs.Read.{Read, ◌>>=◌}
use Rattle.facts.specs.Partial.{Partial, partial_at, past_partial}
use Rattle.facts.specs.Fields.{word_at}
use Rattle.facts.specs.Run.{Move, next, blocked, attempt, run_from, at_most}
use Rattle.taskfile.specs.Task.{Edge, Walk, arrived, along, max_nodes, max_weight, max_list}
use Rattle.taskfile.specs.TaskFile.{edge_bytes}
use Rattle.taskfile.specs.Row.{own_from}

-- ---- the parts of an action at an offset

-- where the incoming weight of the action at an offset stands: past precondition and effect
unfoldable pub incoming_place : List ℕ → ℕ → ℕ
incoming_place f at = past_partial f (past_partial f at)

-- how many nodes an action has whose effect is at an offset: the byte after the incoming weight
unfoldable pub count_past : List ℕ → ℕ → ℕ
count_past f effect = get_or f (past_partial f effect + 2) 0

-- how many nodes the action at an offset has
unfoldable pub node_count : List ℕ → ℕ → ℕ
node_count f at = get_or f (incoming_place f at + 2) 0

-- ---- its walk

-- the edge, for the state's value, of the node at an offset that tests a variable
unfoldable pub edge_of : List ℕ → ℕ → ℕ → List ℕ → Edge
edge_of f node variable s =
    let at = node + (1 + edge_bytes * get_or s variable 0) in
    record { target = get_or f at 0; weight = word_at f (at + 1) }

-- the edge of node k, where `nodes` has the offset of each node from node 1 on, and the variables that they test from entry 64 on
abbrev pub edge_from : List ℕ → List ℕ → List ℕ → ℕ → Edge
edge_from f nodes s k = edge_of f (get_or nodes (k - 1) 0) (get_or nodes (max_nodes + (k - 1)) 0) s

-- where a walk through m nodes goes on from node k by an edge to `target`: only up, and else to the terminal; in an accepted file it is the target
unfoldable pub onward : ℕ → ℕ → ℕ → ℕ
onward m k target = elim (ltb k target) [ true ↦ target | false ↦ suc m ]

-- a diagram with m nodes that are noted so, in the state s
module _ (f nodes : List ℕ) (m : ℕ) (s : List ℕ) where
  -- the walk from node k on, which passes at most `left` nodes
  unfoldable pub way_up : ℕ → ℕ → Walk
  way_up zero k = arrived
  way_up (suc left) k = elim (leb k m) [ true ↦ along (edge_from f nodes s k) (way_up left (onward m k (edge_from f nodes s k).target)) | false ↦ arrived ]

  -- the walk from node k on: no more nodes are left than those from k to m
  unfoldable pub way_from : ℕ → Walk
  way_from k = way_up (suc m - k) k

-- the walk of an action whose incoming weight is at an offset, and whose own nodes are noted in `nodes`, from node 1 on
unfoldable pub walk_for : List ℕ → ℕ → List ℕ → List ℕ → Walk
walk_for f incoming nodes s =
    let w = way_from f nodes (get_or f (incoming + 2) 0) s 1 in
    record { cost = word_at f incoming + w.cost; passed = w.passed }

-- the walk of an action whose effect is at an offset
unfoldable pub walk_past : List ℕ → ℕ → List ℕ → List ℕ → Walk
walk_past f effect nodes s = walk_for f (past_partial f effect) nodes s

-- the walk of the action at an offset
unfoldable pub walk_at : List ℕ → ℕ → List ℕ → List ℕ → Walk
walk_at f at nodes s = walk_past f (past_partial f at) nodes s

-- the nodes that one walk passes: how many an action has is one byte
abbrev pub max_passed : ℕ
max_passed = 255

-- what one walk costs: the incoming weight, and an edge's for each node
abbrev pub max_walk : ℕ
max_walk = max_weight * suc max_passed

-- ---- moves

-- the same move at another cost
abbrev pub at_cost : ℕ → Move → Move
at_cost c (next s paid) = next s c
at_cost c blocked = blocked

-- what the action at an offset does in the state s, with a measure of its walk in s, the state before it, as the cost
unfoldable pub perform_by : (Walk → ℕ) → List ℕ → ℕ → List ℕ → List ℕ → Move
perform_by measure f at nodes s = attempt (partial_at f at) (partial_at f (past_partial f at)) (measure (walk_at f at nodes s)) s

-- the same of action number a, by the row of the index
unfoldable pub move_by : (Walk → ℕ) → List ℕ → List ℕ → ℕ → List ℕ → Move
move_by measure f row a s = perform_by measure f (get_or row a 0) (drop (own_from row a) row) s

-- what the action at an offset does: it costs what its walk costs
abbrev pub perform_at : List ℕ → ℕ → List ℕ → List ℕ → Move
perform_at = perform_by (λ w. w.cost)

-- what it does, with the number of nodes that its walk passes in place of the cost
abbrev pub pass_at : List ℕ → ℕ → List ℕ → List ℕ → Move
pass_at = perform_by (λ w. w.passed)

-- what action number a does
abbrev pub move_at : List ℕ → List ℕ → ℕ → List ℕ → Move
move_at = move_by (λ w. w.cost)

-- what action number a does, with the number of nodes that its walk passes in place of the cost
abbrev pub passes_at : List ℕ → List ℕ → ℕ → List ℕ → Move
passes_at = move_by (λ w. w.passed)

-- ---- runs

-- the run of a list of at most 256 numbers from the state s: 8 for the list, then per number 11 before 9, and 10 at the end
unfoldable pub run_list : ℕ → (ℕ → List ℕ → Move) → Partial → List ℕ → List ℕ → Read ℕ
run_list count move goal list s = do
  _ ← at_most max_list list
  run_from count move goal 0 0 list s
