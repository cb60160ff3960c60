-- The greatest cost of an action by one pass over the nodes of its diagram, from the last to the first, and the first state that has it by one walk from node 1.
use Rattle.std.specs.Prelude.{ℕ, suc, ◌+◌, ◌-◌, true, false, List, [], ◌∷◌, eqb, get_or, None, Some}
use Rattle.facts.specs.Lists.{up_from, find}
use Rattle.taskfile.specs.Task.{Node, Action, level}
use Rattle.relaxation.specs.Pass.{edge_for, Pass, by_edge, least_from}
use Rattle.relaxation.specs.RelaxedInPlace.{greatest}

-- over all values of each variable, the weights added up; of several ways it is the greatest that counts
abbrev pub greatest_pass : List ℕ → Pass ℕ
greatest_pass sizes = record { values = λ v. up_from 0 (get_or sizes v 0); across = λ v d w later. w + later; least = greatest; terminal = 0 }

-- the greatest from number k on
abbrev pub greatest_from : List ℕ → List Node → ℕ → ℕ
greatest_from sizes nodes k = least_from (greatest_pass sizes) nodes k

-- the greatest cost of an action, so found
unfoldable pub greatest_by_pass : List ℕ → Action → ℕ
greatest_by_pass sizes x = x.incoming + greatest_from sizes x.nodes 1

-- the first of so many values that costs m
abbrev pub first_costing : (ℕ → ℕ) → ℕ → ℕ → ℕ
first_costing costOf m size = elim (find (λ d. eqb (costOf d) m) (up_from 0 size)) [ None ↦ 0 | Some d ↦ d ]

-- A walk through the nodes of a diagram over variables with these domain sizes.
module _ (sizes : List ℕ) (nodes : List Node) where
  -- the node of number k
  abbrev pub node_of : ℕ → Node
  node_of k = get_or nodes (k - 1) (record { var = 0; edges = [] })

  -- by its edge for the value d
  abbrev pub cost_by : ℕ → ℕ → ℕ
  cost_by k d = by_edge (greatest_pass sizes) (node_of k) (greatest_from sizes nodes) d

  -- At number k, the value of variable v, which has `size` values: the first that keeps the greatest cost where node k tests it, else 0.
  abbrev pub value_at : ℕ → ℕ → ℕ → ℕ
  value_at k v size = elim (eqb (level sizes nodes k) v) [ true ↦ first_costing (cost_by k) (greatest_from sizes nodes k) size | false ↦ 0 ]

  -- and the number to go on from
  abbrev pub next_at : ℕ → ℕ → ℕ → ℕ
  next_at k v d = elim (eqb (level sizes nodes k) v) [ true ↦ (edge_for (node_of k) d).target | false ↦ k ]

  -- The values from variable v on, whose domain sizes are these, of the walk from number k.
  abbrev pub walk_values : ℕ → ℕ → List ℕ → List ℕ
  walk_values k v [] = []
  walk_values k v (size ∷ left) = let d = value_at k v size in d ∷ walk_values (next_at k v d) (suc v) left

-- the first state with the greatest cost, so found
unfoldable pub dearest_by_walk : List ℕ → Action → List ℕ
dearest_by_walk sizes x = walk_values sizes x.nodes 1 0 sizes
