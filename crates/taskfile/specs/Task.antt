-- Tasks as values: actions whose costs are decision diagrams (EVMDDs). Document 01, "The task file", "Running on a task".
use Rattle.std.specs.Prelude.{◌≡◌, ℕ, suc, ◌+◌, ◌-◌, ◌≤◌, ◌<◌, true, false, List, [], ◌∷◌, map, eqb, length, get_or, None, Some, slice_get}
use Rattle.facts.specs.Read.{Read, accepted, ◌>>=◌}
use Rattle.facts.specs.Lists.{total, All, At}
use Rattle.facts.specs.Partial.{Partial}
use Rattle.facts.specs.State.{Inside}
use Rattle.facts.specs.Run.{Move, blocked, attempt, run_from, Reaches}
use Rattle.facts.specs.WellFormed.{WfPartial}

-- an edge of a diagram: the number of the node that it leads to, and what it costs
pub record Edge : Type 0 where
  pub target : ℕ
  pub weight : ℕ

-- a node of a diagram: the variable that it tests, and an edge for each value of it, from 0
pub record Node : Type 0 where
  pub var : ℕ
  pub edges : List Edge

-- An action: precondition, effect, and the EVMDD of its cost, which is the weight of the edge into node 1 and the nodes. They are numbered
-- from 1, and the terminal's number comes after the last node's.
pub record Action : Type 0 where
  pub pre : Partial
  pub eff : Partial
  pub incoming : ℕ
  pub nodes : List Node

-- a task: domain sizes, initial values, goal and actions
pub record Task : Type 0 where
  pub sizes : List ℕ
  pub init : List ℕ
  pub goal : Partial
  pub actions : List Action

-- ---- the limits

-- variables of a task
abbrev pub max_variables : ℕ
max_variables = 24

-- values of a variable
abbrev pub max_values : ℕ
max_values = 8

-- actions of a task
abbrev pub max_actions : ℕ
max_actions = 32

-- nodes of all actions of a task together
abbrev pub max_nodes : ℕ
max_nodes = 64

-- bytes of a file
abbrev pub max_bytes : ℕ
max_bytes = 3826

-- bytes of the probe file written from a task
abbrev pub max_written : ℕ
max_written = 13846

-- semaphore and markers of the written file
abbrev pub max_markers : ℕ
max_markers = 1 + max_actions

-- entries of one action in a probe list: its start, an edge for each variable, its end
abbrev pub max_entries : ℕ
max_entries = max_variables + 2

-- entries of a table by number: one for each node and for the terminal, and one at 0
abbrev pub max_numbers : ℕ
max_numbers = max_nodes + 2

-- entries of a list
abbrev pub max_list : ℕ
max_list = 256

-- a weight
abbrev pub max_weight : ℕ
max_weight = 65535

-- one cost: the incoming weight, and at most one edge's for each variable
abbrev pub max_cost : ℕ
max_cost = 1638375

-- ---- costs

-- the edge of a node for the state's value
abbrev pub edge_at : Node → List ℕ → Edge
edge_at nd s = get_or nd.edges (get_or s nd.var 0) (record { target = 0; weight = 0 })

-- a state's way through a diagram: the weights of its edges added up, and the number of nodes that it passes
pub record Walk : Type 0 where
  pub cost : ℕ
  pub passed : ℕ

-- at the terminal
abbrev pub arrived : Walk
arrived = record { cost = 0; passed = 0 }

-- past one node by the edge e, and on
abbrev pub along : Edge → Walk → Walk
along e w = record { cost = e.weight + w.cost; passed = suc w.passed }

-- The walk of the state s from node `at` to the terminal, where `nodes` are those from number i on: targets only go up, so one pass over the
-- nodes meets those that are passed in their order.
unfoldable pub walk_from : ℕ → List Node → ℕ → List ℕ → Walk
walk_from i [] at s = arrived
walk_from i (nd ∷ nodes) at s =
    elim (eqb at i) [
      | true ↦ along (edge_at nd s) (walk_from (suc i) nodes (edge_at nd s).target s)
      | false ↦ walk_from (suc i) nodes at s
    ]

-- the walk of an action in a state, from the edge into node 1
unfoldable pub walk : Action → List ℕ → Walk
walk x s = let w = walk_from 1 x.nodes 1 s in record { cost = x.incoming + w.cost; passed = w.passed }

-- what an action costs in a state, whether or not it applies there
abbrev pub cost : Action → List ℕ → ℕ
cost x s = (walk x s).cost

-- ---- running

-- what an action does in the state s: it costs what it costs in s, the state before it
abbrev pub perform : Action → List ℕ → Move
perform x s = attempt x.pre x.eff (cost x s) s

-- what action number a does in the state s
unfoldable pub action_move : List Action → ℕ → List ℕ → Move
action_move actions a s = elim (slice_get actions a) [ None ↦ blocked | Some x ↦ perform x s ]

-- what action number a does in the state s, with the number of nodes that its walk passes in place of the cost
unfoldable pub action_passes : List Action → ℕ → List ℕ → Move
action_passes actions a s = elim (slice_get actions a) [ None ↦ blocked | Some x ↦ attempt x.pre x.eff (walk x s).passed s ]

-- the sum of a list of any length, run from the initial state, or the refusal
unfoldable pub task_sum : Task → List ℕ → Read ℕ
task_sum t list = run_from (length t.actions) (action_move t.actions) t.goal 0 0 list t.init

-- how many nodes the walks of its actions pass, run likewise
unfoldable pub task_passed : Task → List ℕ → Read ℕ
task_passed t list = run_from (length t.actions) (action_passes t.actions) t.goal 0 0 list t.init

-- the two numbers of a walk, or the first refusal
abbrev pub both : Read ℕ → Read ℕ → Read Walk
both costs passes = do
  cost ← costs
  passed ← passes
  accepted (record { cost = cost; passed = passed })

-- The run of a list of any length: the walks of its actions added up, that is the sum and the number of nodes passed, or the refusal. Document 02, W7: "The cost of an action shall carry the number of nodes passed on
-- its path, and a run on a task the total."
unfoldable pub task_run : Task → List ℕ → Read Walk
task_run t list = both (task_sum t list) (task_passed t list)

-- `list` is a plan of the task with the sum c
abbrev pub Plan : Task → List ℕ → ℕ → Type 0
Plan t list c = Reaches (action_move t.actions) t.goal 0 list t.init c

-- ---- what an accepted file guarantees

-- the variable of node k, and for the terminal the number of variables: it rises along every edge
abbrev pub level : List ℕ → List Node → ℕ → ℕ
level sizes nodes k = get_or (map (λ (nd : Node). nd.var) nodes) (k - 1) (length sizes)

-- an edge of node i, which tests the variable v
pub record WfEdge (sizes : List ℕ) (nodes : List Node) (i v : ℕ) (e : Edge) : Type 0 where
  pub above : i < e.target
  pub within : e.target ≤ suc (length nodes)
  pub rises : v < level sizes nodes e.target

-- node i of a diagram
pub record WfNode (sizes : List ℕ) (nodes : List Node) (i : ℕ) (nd : Node) : Type 0 where
  pub var_below : nd.var < length sizes
  pub edge_count_lem : length nd.edges ≡ get_or sizes nd.var 0
  pub edges : {d : ℕ} {e : Edge} → At nd.edges d e → WfEdge sizes nodes i nd.var e

-- an action of a task with these domain sizes
pub record WfAction (sizes : List ℕ) (x : Action) : Type 0 where
  pub pre : WfPartial sizes x.pre
  pub eff : WfPartial sizes x.eff
  pub nodes : {j : ℕ} {nd : Node} → At x.nodes j nd → WfNode sizes x.nodes (suc j) nd

-- what runs and costs depend on
pub record WfTask (t : Task) : Type 0 where
  pub init : Inside t.sizes t.init
  pub goal : WfPartial t.sizes t.goal
  pub actions : {a : ℕ} {x : Action} → At t.actions a x → WfAction t.sizes x

-- each count is in its range
pub record Limits (t : Task) : Type 0 where
  pub some_variable : 1 ≤ length t.sizes
  pub variables : length t.sizes ≤ max_variables
  pub sizes : All (λ d. (2 ≤ d) × (d ≤ max_values)) t.sizes
  pub actions : length t.actions ≤ max_actions
  pub nodes : total (λ x. length x.nodes) t.actions ≤ max_nodes

-- each weight of an action has two bytes
pub record Weights (x : Action) : Type 0 where
  pub incoming : x.incoming ≤ max_weight
  pub edges : {j d : ℕ} {nd : Node} {e : Edge} → At x.nodes j nd → At nd.edges d e → e.weight ≤ max_weight
