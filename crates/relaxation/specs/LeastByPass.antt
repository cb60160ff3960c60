-- The least over all states is what one pass over a diagram finds, in any min-plus algebra. By induction over the variables: a variable that the
-- node reached does not test adds 0, and one that it tests goes the ways of its edges.
use Rattle.std.specs.Prelude.{◌≡◌, ℕ, zero, suc, ◌+◌, ◌≤◌, ◌<◌, length, get_or}
use Rattle.std.proofs.Math.Path.{refl, ap, fun_ext}
use Rattle.std.proofs.Common.{sym, ◌∙◌, subst, inl, inr, eq-or-lt_of_le, length-append}
use native.Mathlib.Omega.{arith}
use mathlib.Core.List.{List, [], ◌∷◌, ◌++◌, map}
use Rattle.std.proofs.Math.Seq.{append_snoc}
use Rattle.std.proofs.lemmas.List.{get_or_at}
use Rattle.facts.specs.Lists.{All, At}
use Rattle.facts.specs.ListLaws.{at_get_d, all_at}
use Rattle.taskfile.specs.Task.{Edge, Node, Action, edge_at, Walk, walk_from, walk, cost, level, WfEdge, WfAction}
use Rattle.taskfile.specs.WalkLaws.{walk_at, walk_past_lem, level_node, level_terminal}
use Rattle.relaxation.specs.Least.{least_of, states, least_over, values_sum, MinPlus}
use Rattle.relaxation.specs.LeastLaws.{map_agree, states_some, least_sum, over_next}
use Rattle.relaxation.specs.Pass.{edge_for, Pass, least_from}
use Rattle.relaxation.specs.PassLaws.{edge_inside, pass_node, pass_terminal}

-- the pass that adds to each edge's weight the number of its value
abbrev pub weighed : {C : Type 0} → (C → C → C) → (C → C → C) → (ℕ → C) → C → (ℕ → ℕ → C) → (ℕ → List ℕ) → Pass C
weighed sum lesser of none number values =
    record { values = values; across = λ v d w later. sum (of w) (sum (number v d) later); least = least_of lesser none; terminal = of 0 }

module _ {C : Type 0} {sum lesser : C → C → C} {of : ℕ → C} (algebra : MinPlus sum lesser of) (none : C) (number : ℕ → ℕ → C) (values : ℕ → List ℕ)
    {sizes : List ℕ} {x : Action} (wf : WfAction sizes x) where
  -- the values of each variable that is tested: there are some, and none outside its domain
  pub record Usable : Type 0 where
    pub some : {j : ℕ} {nd : Node} → At x.nodes j nd → 0 < length (values nd.var)
    pub inside : {j : ℕ} {nd : Node} → At x.nodes j nd → All (λ d. d < get_or sizes nd.var 0) (values nd.var)

  -- The set of variable v: some values, of which the least number is 0; where v is tested, the values that the pass goes by.
  pub record Choice (v : ℕ) (choices : List ℕ) : Type 0 where
    pub some : 0 < length choices
    pub neutral : least_of lesser none (map (number v) choices) ≡ of 0
    pub tested : {j : ℕ} {nd : Node} → At x.nodes j nd → nd.var ≡ v → choices ≡ values v

  -- such a set for each variable from v on
  pub data Choices : ℕ → List (List ℕ) → Type 0 where
    last : {v : ℕ} → v ≡ length sizes → Choices v []
    next : {v : ℕ} {choices : List ℕ} {sets : List (List ℕ)} → Choice v choices → Choices (suc v) sets → Choices v (choices ∷ sets)

  -- none of them is empty
  choices_some : {v : ℕ} {sets : List (List ℕ)} → Choices v sets → All (λ choices. 0 < length choices) sets
  choices_some (last e) = tt
  choices_some (next c cs) = (c.some, choices_some cs)

  -- v is a variable, or their count
  choices_most : {v : ℕ} {sets : List (List ℕ)} → Choices v sets → v ≤ length sizes
  choices_most (last e) = omega arith
  choices_most (next c cs) = omega (arith, choices_most cs)

  module _ (usable : Usable) where
    -- the pass that this is about
    abbrev pass : Pass C
    pass = weighed sum lesser of none number values

    -- the least from node k on, by the pass
    abbrev from : ℕ → C
    from k = least_from pass x.nodes k

    -- the least of a list
    abbrev least : List C → C
    least cs = least_of lesser none cs

    -- by the edge of a node for the value d of its variable v
    abbrev edge_cost : ℕ → Node → ℕ → C
    edge_cost v nd d = sum (of (edge_for nd d).weight) (sum (number v d) (from (edge_for nd d).target))

    -- a node has an edge for each of its values
    edge_wf : {j : ℕ} {nd : Node} {k d : ℕ} → At x.nodes j nd → At (values nd.var) k d → WfEdge sizes x.nodes (suc j) nd.var (edge_for nd d)
    edge_wf {nd = nd} h a = edge_inside wf h (all_at (λ d. d < get_or sizes nd.var 0) (usable.inside h) a)

    -- at a node
    from_node : {j : ℕ} {nd : Node} → At x.nodes j nd → from (suc j) ≡ least (map (edge_cost nd.var nd) (values nd.var))
    from_node h = pass_node pass h (λ k d a. (edge_wf h a).above)

    -- "Nodes are numbered 1 to m; m+1 is the terminal."
    record NodeOrTerminal (k : ℕ) : Type 0 where
      positive : 1 ≤ k
      within : k ≤ suc (length x.nodes)

    -- what holds at the terminal and at each node holds at each number
    by_number : (P : ℕ → Type 0) → P (suc (length x.nodes)) → ((j : ℕ) (nd : Node) → At x.nodes j nd → P (suc j)) → (k : ℕ) → NodeOrTerminal k → P k
    by_number P end node zero at = absurd (omega (arith, at.positive))
    by_number P end node (suc j) at =
        elim (eq-or-lt_of_le at.within) [
          | inl e ↦ rw e end
          | inr e ↦ node j (get_or x.nodes j (record { var = 0; edges = [] })) (at_get_d x.nodes j (record { var = 0; edges = [] }) (omega arith))
        ]

    -- ---- sums

    -- two summands in the other order
    swap : (a b c : C) → sum a (sum b c) ≡ sum b (sum a c)
    swap a b c = sym (algebra.sum_assoc a b c) ∙ ap (λ e. sum e c) (algebra.sum_comm a b) ∙ algebra.sum_assoc b a c

    -- one weight of two beside the other summands
    split : (w m : ℕ) (c : C) → sum (of (w + m)) c ≡ sum (of w) (sum (of m) c)
    split w m c = ap (λ e. sum e c) (sym (algebra.of_sum w m)) ∙ algebra.sum_assoc (of w) (of m) c

    -- 0 more is no more
    nothing_more : (k : ℕ) → NodeOrTerminal k → sum (of 0) (from k) ≡ from k
    nothing_more =
        by_number (λ k. sum (of 0) (from k) ≡ from k)
        (rw (pass_terminal pass x.nodes) (algebra.of_sum 0 0))
        (λ j nd h.
        rw (from_node h)
        (sym (least_sum algebra none (of 0) (edge_cost nd.var nd) (values nd.var) (usable.some h))
        ∙ ap least (map_agree (λ d. sum (of 0) (edge_cost nd.var nd d)) (edge_cost nd.var nd) (values nd.var) (λ k d a.
        let e : 0 + (edge_for nd d).weight ≡ (edge_for nd d).weight = omega arith in
        let rest = sum (number nd.var d) (from (edge_for nd d).target) in
        sym (split 0 (edge_for nd d).weight rest) ∙ ap (λ (w : ℕ). sum (of w) rest) e))))

    -- ---- a state whose values before variable v are `done`, and from v on s

    -- the cost of a state from node k on
    abbrev cost_from : ℕ → List ℕ → ℕ
    cost_from k s = (walk_from 1 x.nodes k s).cost

    -- the cost from node k on, and the numbers of the values from v on
    abbrev value : ℕ → ℕ → List ℕ → List ℕ → C
    value k v done s = sum (of (cost_from k (done ++ s))) (values_sum sum (of 0) number v s)

    -- the value d of variable v taken over to those before
    value_skips : (k v : ℕ) (done : List ℕ) (d : ℕ) (s : List ℕ) → value k v done (d ∷ s) ≡ sum (number v d) (value k (suc v) (done ++ d ∷ []) s)
    value_skips k v done d s =
        let rest = values_sum sum (of 0) number (suc v) s in
        swap (of (cost_from k (done ++ d ∷ s))) (number v d) rest
        ∙ ap (λ (t : List ℕ). sum (number v d) (sum (of (cost_from k t)) rest)) (sym (append_snoc done d s))

    -- at a node that tests v
    value_node : {j : ℕ} {nd : Node} {i d : ℕ} → At x.nodes j nd → At (values nd.var) i d → (done : List ℕ) → length done ≡ nd.var → (s : List ℕ)
        → value (suc j) nd.var done (d ∷ s) ≡ sum (of (edge_for nd d).weight) (sum (number nd.var d) (value (edge_for nd d).target (suc nd.var) (done ++ d ∷ []) s))
    value_node {j} {nd} {d = d} h a done n s =
        let full = done ++ d ∷ s in
        let e = edge_for nd d in
        let rest = values_sum sum (of 0) number nd.var (d ∷ s) in
        let taken : edge_at nd full ≡ e = ap (edge_for nd) (get_or_at done d s 0 nd.var n) in
        let goes : cost_from (suc j) full ≡ e.weight + cost_from e.target full =
        ap (λ (w : Walk). w.cost) (walk_at full 1 (suc j) h (omega arith) (subst (λ (e : Edge). suc j < e.target) (sym taken) (edge_wf h a).above))
        ∙ ap (λ (e : Edge). e.weight + cost_from e.target full) taken in
        ap (λ (c : ℕ). sum (of c) rest) goes
        ∙ split e.weight (cost_from e.target full) rest
        ∙ ap (sum (of e.weight)) (value_skips e.target nd.var done d s)

    -- ---- by the variables from v on

    -- what is shown for the variables after v, whatever the value of v is
    record Shown (v : ℕ) (sets : List (List ℕ)) (done : List ℕ) : Type 0 where
      some : 0 < length (states sets)
      is : (d k : ℕ) → NodeOrTerminal k → suc v ≤ level sizes x.nodes k → least_over lesser none sets (value k (suc v) (done ++ d ∷ [])) ≡ from k

    module _ {sets : List (List ℕ)} {done : List ℕ} where
      -- v is tested later or not at all: its numbers add 0
      over_skips : {v : ℕ} {choices : List ℕ} → Choice v choices → Shown v sets done → (k : ℕ) → NodeOrTerminal k → v < level sizes x.nodes k
          → least (map (λ d. least_over lesser none sets (λ s. value k v done (d ∷ s))) choices) ≡ from k
      over_skips {v} {choices} c shown k at low =
          ap (λ f. least (map f choices)) (fun_ext (λ d.
          ap (least_over lesser none sets) (fun_ext (λ s. value_skips k v done d s))
          ∙ least_sum algebra none (number v d) (value k (suc v) (done ++ d ∷ [])) (states sets) shown.some
          ∙ ap (sum (number v d)) (shown.is d k at low)
          ∙ algebra.sum_comm (number v d) (from k)))
          ∙ least_sum algebra none (from k) (number v) choices c.some
          ∙ ap (sum (from k)) c.neutral
          ∙ algebra.sum_comm (from k) (of 0)
          ∙ nothing_more k at

      -- v is tested by node j
      over_node : {j : ℕ} {nd : Node} → At x.nodes j nd → Shown nd.var sets done → length done ≡ nd.var
          → least (map (λ d. least_over lesser none sets (λ s. value (suc j) nd.var done (d ∷ s))) (values nd.var)) ≡ from (suc j)
      over_node {j} {nd} h shown n =
          ap least (map_agree (λ d. least_over lesser none sets (λ s. value (suc j) nd.var done (d ∷ s))) (edge_cost nd.var nd) (values nd.var) (λ i d a.
          let e = edge_for nd d in
          let w = edge_wf h a in
          let on = value e.target (suc nd.var) (done ++ d ∷ []) in
          ap (least_over lesser none sets) (fun_ext (λ s. value_node h a done n s))
          ∙ least_sum algebra none (of e.weight) (λ s. sum (number nd.var d) (on s)) (states sets) shown.some
          ∙ ap (sum (of e.weight))
          (least_sum algebra none (number nd.var d) on (states sets) shown.some
          ∙ ap (sum (number nd.var d)) (shown.is d e.target (record { positive = omega (arith, w.above); within = w.within }) w.rises))))
          ∙ sym (from_node h)

      -- v is one of them
      over_variable : {v : ℕ} {choices : List ℕ} → Choice v choices → Shown v sets done → length done ≡ v → v < length sizes
          → (k : ℕ) → NodeOrTerminal k → v ≤ level sizes x.nodes k
          → least (map (λ d. least_over lesser none sets (λ s. value k v done (d ∷ s))) choices) ≡ from k
      over_variable {v} {choices} c shown n few k at low =
          elim (eq-or-lt_of_le low) [
            | inr later ↦ over_skips c shown k at later
            | inl now ↦
                by_number (λ k. v ≡ level sizes x.nodes k → least (map (λ d. least_over lesser none sets (λ s. value k v done (d ∷ s))) choices) ≡ from k)
                (λ e. absurd (omega (arith, level_terminal sizes x.nodes)))
                (λ j nd h e. here_tested h (sym (e ∙ level_node sizes h)))
                k at now
          ]
        where
          -- by node j
          here_tested : {j : ℕ} {nd : Node} → At x.nodes j nd → nd.var ≡ v → least (map (λ d. least_over lesser none sets (λ s. value (suc j) v done (d ∷ s))) choices) ≡ from (suc j)
          here_tested {j} {nd} h q =
              ap (λ vs. least (map (λ d. least_over lesser none sets (λ s. value (suc j) v done (d ∷ s))) vs)) (c.tested h q)
              ∙ subst (λ (v : ℕ). Shown v sets done → length done ≡ v → least (map (λ d. least_over lesser none sets (λ s. value (suc j) v done (d ∷ s))) (values v)) ≡ from (suc j))
              q (over_node h) shown n

    -- no variable is left: node k is the terminal
    over_none : (v : ℕ) (done : List ℕ) (k : ℕ) → NodeOrTerminal k → length sizes ≤ level sizes x.nodes k → value k v done [] ≡ from k
    over_none v done =
        by_number (λ k. length sizes ≤ level sizes x.nodes k → value k v done [] ≡ from k)
        (λ low.
        ap (λ (w : Walk). sum (of w.cost) (of 0)) (walk_past_lem (done ++ []) 1 (suc (length x.nodes)) x.nodes (omega arith))
        ∙ algebra.of_sum 0 0
        ∙ sym (pass_terminal pass x.nodes))
        (λ j nd h low. absurd (omega (arith, level_node sizes h, (wf.nodes h).var_below)))

    -- for the variables from v on, whatever the values before are
    over_from : {v : ℕ} {sets : List (List ℕ)} → Choices v sets → (done : List ℕ) → length done ≡ v
        → (k : ℕ) → NodeOrTerminal k → v ≤ level sizes x.nodes k → least_over lesser none sets (value k v done) ≡ from k
    over_from {v} (last e) done n k at low = over_none v done k at (omega arith)
    over_from {v} (next {choices = choices} {sets = sets} c cs) done n k at low =
        let some = states_some sets (choices_some cs) in
        let shown : Shown v sets done = record { some = some; is = λ d k at low. over_from cs (done ++ d ∷ []) (omega (arith, length-append done (d ∷ []))) k at low } in
        over_next algebra none choices sets (value k v done) c.some some ∙ over_variable c shown n (choices_most cs) k at low

    -- The least over all states, of an action's cost and the numbers of all values, is what one pass finds.
    pub least_by_pass : {sets : List (List ℕ)} → Choices 0 sets
        → least_over lesser none sets (λ s. sum (of (cost x s)) (values_sum sum (of 0) number 0 s)) ≡ sum (of x.incoming) (least_from pass x.nodes 1)
    unfolding walk
    least_by_pass {sets} cs =
        ap (least_over lesser none sets) (fun_ext (λ s. split x.incoming (cost_from 1 s) (values_sum sum (of 0) number 0 s)))
        ∙ least_sum algebra none (of x.incoming) (value 1 0 []) (states sets) (states_some sets (choices_some cs))
        ∙ ap (sum (of x.incoming)) (over_from cs [] refl 1 (record { positive = omega arith; within = omega arith }) (omega arith))
