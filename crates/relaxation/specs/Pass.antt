-- One pass over the nodes of a diagram, from the last to the first: the least from each node to the terminal.
use Rattle.std.specs.Prelude.{◌≡◌, ℕ, suc, ◌-◌, ◌<◌, List, [], ◌∷◌, map, get_or}
use Rattle.taskfile.specs.Task.{Edge, Node}

-- the edge of a node for the value d of its variable
abbrev pub edge_for : Node → ℕ → Edge
edge_for nd d = get_or nd.edges d (record { target = 0; weight = 0 })

-- What a pass goes by: the values of a variable, what an edge adds (for a variable, a value and a weight) to the least from its target on, the
-- least of several, and what is at the terminal.
pub record Pass (C : Type 0) : Type 0 where
  pub values : ℕ → List ℕ
  pub across : ℕ → ℕ → ℕ → C → C
  pub least : List C → C
  pub terminal : C

-- by the edge of a node for the value d, where `from` is the least from each later number on
abbrev pub by_edge : {C : Type 0} → Pass C → Node → (ℕ → C) → ℕ → C
by_edge p nd from d = p.across nd.var d (edge_for nd d).weight (from (edge_for nd d).target)

-- the least from a node on
abbrev pub least_at : {C : Type 0} → Pass C → Node → (ℕ → C) → C
least_at p nd from = p.least (map (by_edge p nd from) (p.values nd.var))

-- the least from each node on, where the first has the number i, and from the terminal
abbrev pub least_froms : {C : Type 0} → Pass C → ℕ → List Node → List C
least_froms p i [] = p.terminal ∷ []
least_froms p i (nd ∷ nodes) =
    let later = least_froms p (suc i) nodes in
    least_at p nd (λ k. get_or later (k - suc i) p.terminal) ∷ later

-- the least from number k on: a node's, or the terminal's
abbrev pub least_from : {C : Type 0} → Pass C → List Node → ℕ → C
least_from p nodes k = get_or (least_froms p 1 nodes) (k - 1) p.terminal

-- A table that has the least from each number above k on, at the index of that number: what it holds is read by `read`.
pub record Filled {C : Type 0} (p : Pass C) (read : ℕ → C) (nodes : List Node) (k : ℕ) (table : List ℕ) : Type 0 where
  pub at : (t : ℕ) → k < t → read (get_or table t 0) ≡ least_from p nodes t
