-- Laws of a state's walk through a diagram: at a node it goes on from the target of that node's edge, the terminal is its end, and what it
-- passes and costs at most.
use Rattle.std.specs.Prelude.{◌≡◌, ℕ, zero, suc, ◌+◌, ◌*◌, ◌-◌, ◌≤◌, ◌<◌, get_or}
use Rattle.std.proofs.Math.Path.{refl}
use Rattle.std.proofs.Common.{◌∙◌, inl, inr, eq-or-lt_of_le, eq-eqb, ne_eqb}
use native.Mathlib.Omega.{arith}
use mathlib.Core.List.{List, [], ◌∷◌, map}
use Rattle.std.proofs.Math.ListN.{length, get_or-eq_default}
use Rattle.std.proofs.lemmas.List.{length-map}
use Rattle.facts.specs.Lists.{At, here, there}
use Rattle.facts.specs.ListLaws.{at_get_d}
use Rattle.facts.specs.State.{Inside}
use Rattle.facts.specs.PartialLaws.{inside_at}
use Rattle.taskfile.specs.Task.{Node, Action, max_weight, edge_at, Walk, arrived, along, walk_from, walk, cost, level, WfEdge, WfAction, Weights}

-- ---- the nodes from number i on

module _ (s : List ℕ) where
  walk_skips : (i at : ℕ) (nd : Node) (nodes : List Node) → i < at → walk_from i (nd ∷ nodes) at s ≡ walk_from (suc i) nodes at s
  unfolding walk_from
  walk_skips i at nd nodes h = rw (ne_eqb at i (omega arith), walk_from)

  walk_starts : (i at : ℕ) (nd : Node) (nodes : List Node) → at ≡ i → walk_from i (nd ∷ nodes) at s ≡ along (edge_at nd s) (walk_from (suc i) nodes (edge_at nd s).target s)
  unfolding walk_from
  walk_starts i at nd nodes h = rw (eq-eqb at i h, walk_from)

  -- from node number `at`, which stands at index j
  pub walk_at : (i at : ℕ) {j : ℕ} {nodes : List Node} {nd : Node} → At nodes j nd → at ≡ i + j → at < (edge_at nd s).target
      → walk_from i nodes at s ≡ along (edge_at nd s) (walk_from i nodes (edge_at nd s).target s)
  walk_at i at (here {x = nd} {xs = nodes}) e l = rw (walk_skips i (edge_at nd s).target nd nodes (omega arith)) (walk_starts i at nd nodes (omega arith))
  walk_at i at {nd = nd} (there {y = y} {xs = nodes} h) e l =
      rw (walk_skips i at y nodes (omega arith), walk_skips i (edge_at nd s).target y nodes (omega arith)) (walk_at (suc i) at h (omega arith) l)

  -- past the last node
  pub walk_past_lem : (i at : ℕ) (nodes : List Node) → i + length nodes ≤ at → walk_from i nodes at s ≡ arrived
  unfolding walk_from
  walk_past_lem i at [] h = refl
  walk_past_lem i at (nd ∷ nodes) h = walk_skips i at nd nodes (omega arith) ∙ walk_past_lem (suc i) at nodes (omega arith)

-- ---- levels

-- the variable that a node tests
abbrev tested : Node → ℕ
tested nd = nd.var

tested_at : {nodes : List Node} {j : ℕ} {nd : Node} (d : ℕ) → At nodes j nd → get_or (map tested nodes) j d ≡ nd.var
tested_at d here = refl
tested_at d (there h) = tested_at d h

pub level_node : (sizes : List ℕ) {nodes : List Node} {j : ℕ} {nd : Node} → At nodes j nd → level sizes nodes (suc j) ≡ nd.var
level_node sizes {j = j} h = let e : suc j - 1 ≡ j = omega arith in rw e (tested_at (length sizes) h)

pub level_terminal : (sizes : List ℕ) (nodes : List Node) → level sizes nodes (suc (length nodes)) ≡ length sizes
level_terminal sizes nodes = get_or-eq_default (map tested nodes) (length sizes) (omega (arith, length-map nodes tested))

-- ---- a well-formed action x in a state s inside the domains

module _ {sizes : List ℕ} {x : Action} (wf : WfAction sizes x) (s : List ℕ) (inside : Inside sizes s) where
  -- the terminal's number
  abbrev terminal : ℕ
  terminal = suc (length x.nodes)

  -- the walk from node k on
  abbrev from : ℕ → Walk
  from k = walk_from 1 x.nodes k s

  -- each node has an edge for the state's value
  pub edge_there : {j : ℕ} {nd : Node} → At x.nodes j nd → At nd.edges (get_or s nd.var 0) (edge_at nd s)
  edge_there {nd = nd} h =
      let w = wf.nodes h in
      at_get_d nd.edges (get_or s nd.var 0) (record { target = 0; weight = 0 }) (omega (arith, w.edge_count_lem, inside_at sizes s nd.var inside w.var_below))

  pub edge_wf : {j : ℕ} {nd : Node} → At x.nodes j nd → WfEdge sizes x.nodes (suc j) nd.var (edge_at nd s)
  edge_wf h = (wf.nodes h).edges (edge_there h)

  pub walk_node : {j : ℕ} {nd : Node} → At x.nodes j nd → from (suc j) ≡ along (edge_at nd s) (from (edge_at nd s).target)
  walk_node {j} h = walk_at s 1 (suc j) h (omega arith) (edge_wf h).above

  pub walk_terminal : from terminal ≡ arrived
  walk_terminal = walk_past_lem s 1 terminal x.nodes (omega arith)

  -- what holds at the terminal, and at each node if it holds at the target of its edge for the state's value, holds at node 1
  module _ (P : ℕ → Type 0) (end : P terminal) (node : (j : ℕ) (nd : Node) → At x.nodes j nd → P (edge_at nd s).target → P (suc j)) where
    back_to : (left at : ℕ) → 1 ≤ at → at ≤ terminal → terminal ≤ at + left → P at
    back_to zero at l u n = let e : at ≡ terminal = omega arith in rw e end
    back_to (suc left) zero l u n = absurd (omega arith)
    back_to (suc left) (suc j) l u n =
        elim (eq-or-lt_of_le u) [
          | inl e ↦ rw e end
          | inr e ↦
              let h = at_get_d x.nodes j (record { var = 0; edges = [] }) (omega arith) in
              let w = edge_wf h in
              node j (get_or x.nodes j (record { var = 0; edges = [] })) h (back_to left _ (omega (arith, w.above)) w.within (omega (arith, w.above)))
        ]

    pub walk_induction : P 1
    walk_induction = back_to (length x.nodes) 1 (omega arith) (omega arith) (omega arith)

  -- each node that is passed tests a variable above the last one's
  pub passed_most : (walk x s).passed ≤ length sizes
  unfolding walk
  passed_most =
      omega (
        arith,
        walk_induction (λ k. (from k).passed + level sizes x.nodes k ≤ length sizes)
            (rw walk_terminal (omega (arith, level_terminal sizes x.nodes)))
            (λ j nd h p. rw (walk_node h) (omega (arith, level_node sizes h, (edge_wf h).rises))),
      )

  -- a weight for the edge into node 1 and one for each node passed
  pub cost_passed : Weights x → cost x s ≤ max_weight * suc (walk x s).passed
  unfolding walk
  cost_passed w =
      omega (arith, w.incoming, walk_induction (λ k. (from k).cost ≤ max_weight * (from k).passed) (rw walk_terminal (omega arith)) (λ j nd h p. rw (walk_node h) (omega (arith, w.edges h (edge_there h)))))
