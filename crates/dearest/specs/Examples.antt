-- Dearest states, computed: of files, document 01's known cases; of actions, which of several states is given.
use Rattle.std.specs.Prelude.{◌≡◌, refl, ℕ, zero, suc, List, [], ◌∷◌}
use Rattle.facts.specs.Read.{accepted, refused}
use Rattle.facts.specs.Partial.{empty}
use Rattle.taskfile.specs.Task.{Edge, Node, Action}
use Rattle.taskfile.specs.Examples.{xy²+z+2_bytes, P_bytes, answering}
use Rattle.dearest.specs.Dearest.{all_states, greatest_cost, dearest_state, dearest_of}

-- what an example opens
unfoldable pub dearing : Unit {0}
unfolding answering greatest_cost dearest_state dearest_of
dearing = tt

-- ---- files

-- all states of two variables, in their order
in_order : all_states (2 ∷ 2 ∷ []) ≡ (0 ∷ 0 ∷ []) ∷ (0 ∷ 1 ∷ []) ∷ (1 ∷ 0 ∷ []) ∷ (1 ∷ 1 ∷ []) ∷ []
in_order = refl

-- xy² + z + 2, where x and z have 2 values and y has 3: 1 times 4, and 1, and 2
pub dearest_7 : dearest_of xy²+z+2_bytes 0 ≡ accepted (1 ∷ 2 ∷ 1 ∷ [], 7)
unfolding dearing
dearest_7 = refl

-- task P: 3, and 5 where its variable is 0
pub dearest_8 : dearest_of P_bytes 0 ≡ accepted (0 ∷ [], 8)
unfolding dearing
dearest_8 = refl

-- no action 1, and none at all in the blank task
pub dearest_missing : dearest_of P_bytes 1 ≡ refused 11 0
unfolding dearing
dearest_missing = refl

pub dearest_blank : (a : ℕ) → dearest_of [] a ≡ refused 11 0
unfolding dearing
dearest_blank zero = refl
dearest_blank (suc a) = refl

pub dearest_cut : dearest_of (1 ∷ []) 0 ≡ refused 1 1
unfolding dearing
dearest_cut = refl

-- ---- actions

-- an edge by its target and weight, a node by its variable and edges
abbrev edge : ℕ → ℕ → Edge
edge t w = record { target = t; weight = w }

abbrev node : ℕ → List Edge → Node
node v edges = record { var = v; edges = edges }

-- an action by the incoming weight and the nodes of its diagram
abbrev costing : ℕ → List Node → Action
costing w nodes = record { pre = empty; eff = empty; incoming = w; nodes = nodes }

-- without nodes: the incoming weight, at all zeros
no_nodes_cost : greatest_cost (2 ∷ 3 ∷ 2 ∷ []) (costing 7 []) ≡ 7
unfolding dearing
no_nodes_cost = refl

no_nodes_state : dearest_state (2 ∷ 3 ∷ 2 ∷ []) (costing 7 []) ≡ 0 ∷ 0 ∷ 0 ∷ []
unfolding dearing
no_nodes_state = refl

-- (0, 2) and (1, 0) cost 4: the one that is smaller when read from variable 0, though it is greater at variable 1
abbrev two_ways : Action
two_ways = costing 0 (node 0 (edge 2 1 ∷ edge 3 4 ∷ []) ∷ node 1 (edge 3 0 ∷ edge 3 1 ∷ edge 3 3 ∷ []) ∷ [])

first_of_two : dearest_state (2 ∷ 3 ∷ []) two_ways ≡ 0 ∷ 2 ∷ []
unfolding dearing
first_of_two = refl

-- values 1 and 2 of variable 1 cost as much, and variables 0 and 2 cost nothing: 1, and zeros
first_of_twelve : dearest_state (3 ∷ 3 ∷ 2 ∷ []) (costing 1 (node 1 (edge 2 0 ∷ edge 2 9 ∷ edge 2 9 ∷ []) ∷ [])) ≡ 0 ∷ 1 ∷ 0 ∷ []
unfolding dearing
first_of_twelve = refl
