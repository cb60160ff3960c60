-- Task files as bytes: read, costed and run. Document 01, "The task file", "Turned down".
use Rattle.std.specs.Prelude.{None, Some, ℕ, zero, suc, ◌+◌, ◌*◌, ◌-◌, ◌&&◌, List, [], ◌∷◌, leb, ltb, length, get_or, slice_get}
use Rattle.facts.specs.Read.{Read, accepted, refused, check, with_value, ◌>>=◌}
use Rattle.facts.specs.Lists.{up_from}
use Rattle.facts.specs.Partial.{empty}
use Rattle.facts.specs.Fields.{each, field, read_count, read_weight, read_operator, read_head, read_end}
use Rattle.facts.specs.State.{check_state}
use Rattle.facts.specs.Run.{at_most}
use Rattle.taskfile.specs.Task.{Edge, Node, Action, Task, Walk, max_variables, max_values, max_actions, max_nodes, max_list, walk, task_sum, task_run, level}

-- ---- how long a diagram's parts are

-- target and weight
abbrev pub edge_bytes : ℕ
edge_bytes = 3

-- the variable, and an edge for each value
abbrev pub node_bytes : Node → ℕ
node_bytes nd = 1 + edge_bytes * length nd.edges

-- ---- the variables along the edges, in the diagram with these nodes of a task with these domain sizes

module _ (sizes : List ℕ) (nodes : List Node) where
  -- each target's variable is above v, else 6 at the target's byte; the first of the edges begins at the offset
  abbrev pub check_targets : ℕ → List Edge → ℕ → Read (Unit {0})
  check_targets v [] at = accepted tt
  check_targets v (e ∷ edges) at = do
    _ ← check (ltb v (level sizes nodes e.target)) 6 at
    check_targets v edges (at + edge_bytes)

  -- each target's variable is above its own node's; the first of the nodes that are left begins at the offset
  abbrev pub check_rising : List Node → ℕ → Read (Unit {0})
  check_rising [] at = accepted tt
  check_rising (nd ∷ left) at = do
    _ ← check_targets nd.var nd.edges (at + 1)
    check_rising left (at + node_bytes nd)

-- ---- reading the file f

module _ (f : List ℕ) where
  -- the variable that a node tests, of n
  unfoldable pub read_variable : ℕ → ℕ → Read (ℕ × ℕ)
  read_variable n at = field f 1 (λ v. ltb v n) 6 at

  -- the target of an edge of node i, of m: a later node, or the terminal
  unfoldable pub read_target : ℕ → ℕ → ℕ → Read (ℕ × ℕ)
  read_target m i at = field f 1 (λ t. ltb i t && leb t (suc m)) 6 at

  -- an edge of node i, of m
  unfoldable pub read_edge : ℕ → ℕ → ℕ → Read (Edge × ℕ)
  read_edge m i at = do
    (target, at) ← read_target m i at
    (weight, at) ← read_weight f at
    accepted (record { target = target; weight = weight }, at)

  -- an edge for each of d values
  unfoldable pub read_edges : ℕ → ℕ → ℕ → ℕ → Read (List Edge × ℕ)
  read_edges m i d at = each (λ x. read_edge m i) (up_from 0 d) at

  -- node i, of m
  unfoldable pub read_node : List ℕ → ℕ → ℕ → ℕ → Read (Node × ℕ)
  read_node sizes m i at = do
    (var, at) ← read_variable (length sizes) at
    (edges, at) ← read_edges m i (get_or sizes var 0) at
    accepted (record { var = var; edges = edges }, at)

  -- the nodes of a diagram that has m
  unfoldable pub read_nodes : List ℕ → ℕ → ℕ → Read (List Node × ℕ)
  read_nodes sizes m at = each (read_node sizes m) (up_from 1 m) at

  -- the nodes of a diagram that has at most `left`; the variables of its targets are looked at once they are read
  unfoldable pub read_diagram : List ℕ → ℕ → ℕ → Read (List Node × ℕ)
  read_diagram sizes left at = do
    (m, at) ← read_count f 0 left at
    (nodes, end) ← read_nodes sizes m at
    _ ← check_rising sizes nodes nodes at
    accepted (nodes, end)

  -- an action with at most `left` nodes: precondition, effect and incoming weight, then the diagram
  unfoldable pub read_action : List ℕ → ℕ → ℕ → Read (Action × ℕ)
  read_action sizes left at = do
    (o, at) ← read_operator f sizes at
    (nodes, at) ← read_diagram sizes left at
    accepted (record { pre = o.pre; eff = o.eff; incoming = o.weight; nodes = nodes }, at)

  -- `count` actions with at most `left` nodes together
  unfoldable pub read_actions : List ℕ → ℕ → ℕ → ℕ → Read (List Action × ℕ)
  read_actions sizes zero left at = accepted ([], at)
  read_actions sizes (suc count) left at = do
    (x, at) ← read_action sizes left at
    (xs, at) ← read_actions sizes count (left - length x.nodes) at
    accepted (x ∷ xs, at)

  -- the task of a file that has any bytes, or its first refusal
  unfoldable pub read_bytes : Read Task
  read_bytes = do
    (head, at) ← read_head f max_variables max_values
    (count, at) ← read_count f 1 max_actions at
    (actions, at) ← read_actions head.sizes count max_nodes at
    _ ← read_end f at
    accepted (record { sizes = head.sizes; init = head.init; goal = head.goal; actions = actions })

-- The blank task, the only one without actions. Document 02, W1: "one variable of 2 values at 0, an empty goal, no actions".
abbrev pub blank : Task
blank = record { sizes = 2 ∷ []; init = 0 ∷ []; goal = empty; actions = [] }

-- The task of a file, or the file's first refusal. Document 02, W1: "A task file of zero bytes shall now mean the blank task".
unfoldable pub read_task : List ℕ → Read Task
read_task [] = accepted blank
read_task (byte ∷ rest) = read_bytes (byte ∷ rest)

-- ---- the operations

-- accepted, or the refusal
unfoldable pub check_task : List ℕ → Read (Unit {0})
check_task f = with_value (λ t. tt) (read_task f)

-- the action of a number, or 11 at 0
unfoldable pub action_of : List Action → ℕ → Read Action
action_of actions a = elim (slice_get actions a) [ None ↦ refused 11 0 | Some x ↦ accepted x ]

-- What is asked about action number a with the state s, or with sets of values: 1 to 6 for the file, 11 for the number, and then what refuses the state.
unfoldable pub ask_task : {A : Type 0} → (List ℕ → List ℕ → Read (Unit {0})) → (Action → List ℕ → A) → List ℕ → ℕ → List ℕ → Read A
ask_task checked answer f a s = do
  t ← read_task f
  x ← action_of t.actions a
  _ ← checked t.sizes s
  accepted (answer x s)

-- what action number a costs in the state s, and how many nodes its walk passes; 12 and then 4 for the state
abbrev pub cost_task : List ℕ → ℕ → List ℕ → Read Walk
cost_task f a s = ask_task check_state walk f a s

-- the sum of a list of at most 256 actions, and how many nodes their walks pass: 1 to 6 for the file, 8 for the list, then per action 11 before 9, and 10 at the end
unfoldable pub run_task : List ℕ → List ℕ → Read Walk
run_task f list = do
  t ← read_task f
  _ ← at_most max_list list
  task_run t list

-- the sum alone, which is all that expanding answers of a run
unfoldable pub sum_task : List ℕ → List ℕ → Read ℕ
sum_task f list = do
  t ← read_task f
  _ ← at_most max_list list
  task_sum t list
