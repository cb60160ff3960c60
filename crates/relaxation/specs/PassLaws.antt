-- Laws of the pass over a diagram: what it finds at a node and at the terminal, and when two passes find the same.
use Rattle.std.specs.Prelude.{◌≡◌, refl, ℕ, zero, suc, ◌+◌, ◌-◌, ◌≤◌, ◌<◌, List, [], ◌∷◌, map, length, get_or, set}
use Rattle.std.proofs.Common.{sym, ap, ◌∙◌, arith, get_or-set_same, get_or-set_other}
use Rattle.std.proofs.Math.Decide.{ℕ_discrete}
use Rattle.facts.specs.Lists.{All, At, here, there}
use Rattle.facts.specs.ListLaws.{at_get_d, all_at}
use Rattle.taskfile.specs.Task.{Node, Action, WfEdge, WfAction}
use Rattle.relaxation.specs.LeastLaws.{map_agree}
use Rattle.relaxation.specs.Pass.{edge_for, Pass, by_edge, least_at, least_froms, least_from, Filled}

-- ---- edges

-- the element at an index, by its number
pub at_value : {A : Type 0} (none : A) {xs : List A} {k q : ℕ} {y : A} → At xs k y → q ≡ k → y ≡ get_or xs q none
at_value none {q = zero} here e = refl
at_value none {q = suc q} here e = absurd (omega arith)
at_value none {q = zero} (there a) e = absurd (omega arith)
at_value none {q = suc q} (there a) e = at_value none a (omega arith)

-- a node has an edge for each value of its variable
pub edge_inside : {sizes : List ℕ} {x : Action} {j d : ℕ} {nd : Node} → WfAction sizes x → At x.nodes j nd → d < get_or sizes nd.var 0
    → WfEdge sizes x.nodes (suc j) nd.var (edge_for nd d)
edge_inside {d = d} {nd = nd} wf h l = let w = wf.nodes h in w.edges (at_get_d nd.edges d (record { target = 0; weight = 0 }) (omega (arith, w.edge_count_lem)))

-- ---- the ways of a pass

module _ {C : Type 0} (p : Pass C) where
  -- by an edge, from the list of the least from node i on
  abbrev edge_from : ℕ → List Node → Node → ℕ → C
  edge_from i nodes nd d = p.across nd.var d (edge_for nd d).weight (get_or (least_froms p i nodes) ((edge_for nd d).target - i) p.terminal)

  -- the edges of a node that lead above number q
  abbrev pub Above : ℕ → Node → Type 0
  Above q nd = (k d : ℕ) → At (p.values nd.var) k d → q < (edge_for nd d).target

  -- those for values of its variable do
  pub edges_above : {sizes : List ℕ} {x : Action} {j : ℕ} {nd : Node} → WfAction sizes x → At x.nodes j nd → All (λ d. d < get_or sizes nd.var 0) (p.values nd.var)
      → Above (suc j) nd
  edges_above {sizes = sizes} {nd = nd} wf h inside k d a = (edge_inside wf h (all_at (λ d. d < get_or sizes nd.var 0) inside a)).above

  -- a target above number i is one place further in the list that has node i too
  least_further : (i : ℕ) (y : Node) (nodes : List Node) (nd : Node) → Above i nd
      → p.least (map (edge_from (suc i) nodes nd) (p.values nd.var)) ≡ p.least (map (edge_from i (y ∷ nodes) nd) (p.values nd.var))
  least_further i y nodes nd up =
      ap p.least (map_agree (edge_from (suc i) nodes nd) (edge_from i (y ∷ nodes) nd) (p.values nd.var) (λ k d a.
      let m : suc ((edge_for nd d).target - suc i) ≡ (edge_for nd d).target - i = omega (arith, up k d a) in
      ap (λ (n : ℕ). p.across nd.var d (edge_for nd d).weight (get_or (least_froms p i (y ∷ nodes)) n p.terminal)) m))

  -- at the node with index j
  froms_node : (i q : ℕ) {nodes : List Node} {j : ℕ} {nd : Node} → At nodes j nd → Above q nd → q ≡ i + j
      → get_or (least_froms p i nodes) j p.terminal ≡ p.least (map (edge_from i nodes nd) (p.values nd.var))
  froms_node i q (here {x = nd} {xs = nodes}) up e = least_further i nd nodes nd (λ k d a. omega (arith, up k d a))
  froms_node i q (there {x = nd} {y = y} {xs = nodes} h) up e = froms_node (suc i) q h up (omega arith) ∙ least_further i y nodes nd (λ k d a. omega (arith, up k d a))

  -- past the last node
  froms_past : (i : ℕ) (nodes : List Node) (k : ℕ) → length nodes ≤ k → get_or (least_froms p i nodes) k p.terminal ≡ p.terminal
  froms_past i [] zero l = refl
  froms_past i [] (suc k) l = refl
  froms_past i (nd ∷ nodes) zero l = absurd (omega arith)
  froms_past i (nd ∷ nodes) (suc k) l = froms_past (suc i) nodes k (omega arith)

  -- at a node
  pub pass_node : {nodes : List Node} {j : ℕ} {nd : Node} → At nodes j nd → Above (suc j) nd → least_from p nodes (suc j) ≡ least_at p nd (least_from p nodes)
  pass_node {j = j} h up = let e : suc j - 1 ≡ j = omega arith in rw e (froms_node 1 (suc j) h up (omega arith))

  -- past the last node
  pub pass_past : (nodes : List Node) (k : ℕ) → length nodes < k → least_from p nodes k ≡ p.terminal
  pass_past nodes k l = froms_past 1 nodes (k - 1) (omega arith)

  -- at the terminal
  pub pass_terminal : (nodes : List Node) → least_from p nodes (suc (length nodes)) ≡ p.terminal
  pass_terminal nodes = pass_past nodes (suc (length nodes)) (omega arith)

  -- ---- a table filled from the last node to the first

  module _ (read : ℕ → C) {nodes : List Node} where
    -- before the last node's entry, where all that it holds is read as what is at the terminal
    pub filled_start : {table : List ℕ} {k : ℕ} → ((t : ℕ) → read (get_or table t 0) ≡ p.terminal) → length nodes ≤ k → Filled p read nodes k table
    filled_start same l = record { at = λ t up. same t ∙ sym (pass_past nodes t (omega arith)) }

    -- one entry more
    pub filled_next : {table : List ℕ} {j e : ℕ} {nd : Node} → Filled p read nodes (suc j) table → At nodes j nd → Above (suc j) nd → suc j < length table
        → read e ≡ least_at p nd (λ t. read (get_or table t 0)) → Filled p read nodes j (set table (suc j) e)
    filled_next {table} {j} {e} {nd} full h up l is = record { at = λ t above. go t above (ℕ_discrete t (suc j)) }
      where
        -- the entry that is stored
        stored : read e ≡ least_from p nodes (suc j)
        stored =
            is
            ∙ ap p.least (map_agree (by_edge p nd (λ t. read (get_or table t 0))) (by_edge p nd (least_from p nodes)) (p.values nd.var) (λ k d a.
            ap (p.across nd.var d (edge_for nd d).weight) (full.at (edge_for nd d).target (up k d a))))
            ∙ sym (pass_node h up)

        go : (t : ℕ) → j < t → Dec (t ≡ suc j) → read (get_or (set table (suc j) e) t 0) ≡ least_from p nodes t
        go t above (yes same) = rw same (ap read (get_or-set_same table (suc j) e 0 l) ∙ stored)
        go t above (no other) = ap read (get_or-set_other table (suc j) t e 0 other) ∙ full.at t (omega arith)

    -- the entry of node 1
    pub filled_first : {table : List ℕ} {k : ℕ} → k < 1 → Filled p read nodes k table → read (get_or table 1 0) ≡ least_from p nodes 1
    filled_first none full = full.at 1 none

-- ---- two passes

module _ {C : Type 0} (p : Pass C) (across : ℕ → ℕ → ℕ → C → C) where
  -- the pass whose edges add something else
  abbrev changed : Pass C
  changed = record { values = p.values; across = across; least = p.least; terminal = p.terminal }

  -- the edges add the same for each value of each variable that is tested
  abbrev pub Agree : List Node → Type 0
  Agree nodes = (j : ℕ) (nd : Node) → At nodes j nd → (k d : ℕ) → At (p.values nd.var) k d → p.across nd.var d ≡ across nd.var d

  -- both find the same from each node on
  froms_agree : (i : ℕ) (nodes : List Node) → Agree nodes → least_froms p i nodes ≡ least_froms changed i nodes
  froms_agree i [] h = refl
  froms_agree i (nd ∷ nodes) h =
      let later = least_froms p (suc i) nodes in
      let from : ℕ → C = λ k. get_or later (k - suc i) p.terminal in
      ap (λ (c : C). c ∷ later)
      (ap p.least (map_agree (by_edge p nd from) (by_edge changed nd from) (p.values nd.var) (λ k d a. ap (λ (edge : ℕ → C → C). edge (edge_for nd d).weight (from (edge_for nd d).target)) (h 0 nd here k d a))))
      ∙ ap (λ (later : List C). least_at changed nd (λ k. get_or later (k - suc i) p.terminal) ∷ later) (froms_agree (suc i) nodes (λ j nd a. h (suc j) nd (there a)))

  -- both find the same
  pub pass_agrees : (nodes : List Node) → Agree nodes → (k : ℕ) → least_from p nodes k ≡ least_from changed nodes k
  pass_agrees nodes h k = ap (λ (froms : List C). get_or froms (k - 1) p.terminal) (froms_agree 1 nodes h)
