-- The pass and the walk find what is asked for: the state that the walk gives costs the greatest, no state costs more, and it is the smallest of those that cost as much. By induction over the variables.
use Rattle.std.specs.Prelude.{◌≡◌, refl, ◌⊎◌, ℕ, zero, suc, ◌+◌, ◌-◌, ◌≤◌, ◌<◌, Bool, true, false, List, [], ◌∷◌, ◌++◌, map, eqb, length, get_or, drop, Some}
use Rattle.std.proofs.Common.{sym, ap, ◌∙◌, subst, inl, inr, eq-or-lt_of_le, arith, length-drop, length-append, drop-cons, eqb-true}
use Rattle.std.proofs.Math.Decide.{dec_le}
use Rattle.std.proofs.Math.Seq.{append_snoc}
use Rattle.std.proofs.lemmas.List.{get_or_at}
use Rattle.std.proofs.lemmas.Bool.{eqb-false}
use Rattle.facts.specs.Lists.{up_from, find, All, At, here, there}
use Rattle.facts.specs.ListLaws.{at_get_d, length_up_from, at_up_from, all_at}
use Rattle.facts.specs.State.{Inside}
use Rattle.taskfile.specs.Task.{Edge, Node, Action, edge_at, Walk, walk_from, level, WfEdge, WfAction}
use Rattle.taskfile.specs.WalkLaws.{walk_at, walk_past_lem, level_node, level_terminal}
use Rattle.relaxation.specs.Pass.{edge_for, by_edge}
use Rattle.relaxation.specs.PassLaws.{edge_inside, edges_above, pass_node, pass_terminal}
use Rattle.relaxation.specs.PassingLaws.{In, further}
use Rattle.relaxation.specs.LeastCostLaws.{up_from_below}
use Rattle.relaxation.specs.RelaxedInPlace.{greatest}
use Rattle.dearest.specs.Dearest.{Smaller}
use Rattle.dearest.specs.ByWalk.{greatest_pass, greatest_from, first_costing, node_of, cost_by, walk_values}

-- ---- the greatest of some numbers

module _ {A : Type 0} (f : A → ℕ) where
  -- none is more
  pub greatest_most : {xs : List A} {k : ℕ} {x : A} → At xs k x → f x ≤ greatest (map f xs)
  greatest_most here = omega arith
  greatest_most (there a) = omega (arith, greatest_most a)

  -- it is at most what none is more than
  pub greatest_least : (xs : List A) (m : ℕ) → ((k : ℕ) (x : A) → At xs k x → f x ≤ m) → greatest (map f xs) ≤ m
  greatest_least [] m h = omega arith
  greatest_least (x ∷ xs) m h = omega (arith, h 0 x here, greatest_least xs m (λ k y a. h (suc k) y (there a)))

  -- one is as much, if there is one
  greatest_had : (xs : List A) → 0 < length xs → (x : A) × In xs x × (f x ≡ greatest (map f xs))
  greatest_had [] l = absurd (omega arith)
  greatest_had (x ∷ []) l = (x, (0, here), omega arith)
  greatest_had (x ∷ y ∷ xs) l =
      let o = greatest_had (y ∷ xs) (omega arith) in
      elim (dec_le (greatest (map f (y ∷ xs))) (f x)) [ yes l ↦ (x, (0, here), omega arith) | no l ↦ (o.0, further o.1, omega (arith, o.2, l)) ]

-- ---- the first of some values that costs m

module _ (costOf : ℕ → ℕ) (m : ℕ) where
  abbrev costs : ℕ → Bool
  costs d = eqb (costOf d) m

  -- the first from k on
  record FirstFrom (k n d : ℕ) : Type 0 where
    is : find costs (up_from k n) ≡ Some d
    from : k ≤ d
    below : d < k + n
    cost_is : costOf d ≡ m
    first : (e : ℕ) → k ≤ e → costOf e ≡ m → d ≤ e

  -- k itself costs m, or a later one is the first
  first_more : (k n e : ℕ) → k ≤ e → costOf e ≡ m → (suc k ≤ e → (d : ℕ) × FirstFrom (suc k) n d) → (t : Bool) → costs k ≡ t → (d : ℕ) × FirstFrom k (suc n) d
  first_more k n e l q later true t = (k, record { is = rw (t, find); from = omega arith; below = omega arith; cost_is = eqb-true (costOf k) m t; first = λ e l q. l })
  first_more k n e l q later false t =
      let other : (e : ℕ) → k ≤ e → costOf e ≡ m → suc k ≤ e =
      λ e l q. elim (eq-or-lt_of_le l) [ inl same ↦ absurd (eqb-false (costOf k) m t (ap costOf same ∙ q)) | inr less ↦ less ] in
      let o = later (other e l q) in
      let r = o.1 in
      (o.0, record { is = rw (t, find) r.is; from = omega (arith, r.from); below = omega (arith, r.below); cost_is = r.cost_is; first = λ e l q. r.first e (other e l q) q })

  first_from : (k n e : ℕ) → k ≤ e → e < k + n → costOf e ≡ m → (d : ℕ) × FirstFrom k n d
  first_from k zero e l b q = absurd (omega arith)
  first_from k (suc n) e l b q = first_more k n e l q (λ less. first_from (suc k) n e less (omega arith) q) (costs k) refl

  -- it is one of them, costs m, and none before it does
  pub record FirstCosting (size d : ℕ) : Type 0 where
    pub below : d < size
    pub cost_is : costOf d ≡ m
    pub first : (e : ℕ) → costOf e ≡ m → d ≤ e

  first_costing_lem : (size e : ℕ) → e < size → costOf e ≡ m → FirstCosting size (first_costing costOf m size)
  first_costing_lem size e l q =
      let o = first_from 0 size e (omega arith) (omega arith) q in
      let r = o.1 in
      rw (r.is, first_costing) (record { below = omega (arith, r.below); cost_is = r.cost_is; first = λ e q. r.first e (omega arith) q })

-- ---- an action, and what the pass finds from each number on

module _ {sizes : List ℕ} {x : Action} (wf : WfAction sizes x) (some_value : All (λ d. 0 < d) sizes) where
  abbrev nodes : List Node
  nodes = x.nodes

  abbrev from : ℕ → ℕ
  from k = greatest_from sizes nodes k

  -- what a state costs from number k on
  abbrev cost_from : ℕ → List ℕ → ℕ
  cost_from k s = (walk_from 1 nodes k s).cost

  -- ---- at a node

  -- one that tests a variable of so many values
  module _ {j : ℕ} {nd : Node} (h : At nodes j nd) {values : ℕ} (is : values ≡ get_or sizes nd.var 0) where
    -- by its edge for the value d
    abbrev by : ℕ → ℕ
    by d = by_edge (greatest_pass sizes) nd from d

    edge_good : {d : ℕ} → d < values → WfEdge sizes nodes (suc j) nd.var (edge_for nd d)
    edge_good l = edge_inside wf h (omega arith)

    from_node : from (suc j) ≡ greatest (map by (up_from 0 values))
    from_node =
        pass_node (greatest_pass sizes) h (edges_above (greatest_pass sizes) wf h (up_from_below 0 (get_or sizes nd.var 0) (get_or sizes nd.var 0) (omega arith)))
        ∙ ap (λ (n : ℕ). greatest (map by (up_from 0 n))) (sym is)

    by_most : (d : ℕ) → d < values → by d ≤ from (suc j)
    by_most d l = omega (arith, from_node, greatest_most by (at_up_from 0 values d d l (omega arith)))

    -- the first value that keeps the greatest
    pub first_kept : FirstCosting by (from (suc j)) values (first_costing by (from (suc j)) values)
    first_kept =
        let one = all_at (λ (d : ℕ). 0 < d) some_value (at_get_d sizes nd.var 0 (wf.nodes h).var_below) in
        let o = greatest_had by (up_from 0 values) (omega (arith, length_up_from 0 values)) in
        first_costing_lem by (from (suc j)) values o.0 (all_at (λ (d : ℕ). d < values) (up_from_below 0 values values (omega arith)) o.1.1) (o.2 ∙ sym from_node)

    -- a state with the value d of its variable, after as many values as there are variables before it
    cost_by_lem : (done : List ℕ) → length done ≡ nd.var → (d : ℕ) → d < values → (s : List ℕ)
        → cost_from (suc j) (done ++ d ∷ s) ≡ (edge_for nd d).weight + cost_from (edge_for nd d).target ((done ++ d ∷ []) ++ s)
    cost_by_lem done n d l s =
        let full = done ++ d ∷ s in
        let taken : edge_at nd full ≡ edge_for nd d = ap (edge_for nd) (get_or_at done d s 0 nd.var n) in
        ap (λ (w : Walk). w.cost) (walk_at full 1 (suc j) h (omega arith) (subst (λ (e : Edge). suc j < e.target) (sym taken) (edge_good l).above))
        ∙ ap (λ (e : Edge). e.weight + cost_from e.target full) taken
        ∙ ap (λ (t : List ℕ). (edge_for nd d).weight + cost_from (edge_for nd d).target t) (sym (append_snoc done d s))

  -- ---- "Nodes are numbered 1 to m; m+1 is the terminal."

  pub record NodeOrTerminal (k : ℕ) : Type 0 where
    pub positive : 1 ≤ k
    pub within : k ≤ suc (length nodes)

  -- a number whose level is a variable is a node's
  node_testing : (j : ℕ) → j ≤ length nodes → level sizes nodes (suc j) < length sizes → At nodes j (node_of sizes nodes (suc j))
  node_testing j at l =
      elim (eq-or-lt_of_le at) [
        | inl e ↦ absurd (omega (arith, ap (λ (j : ℕ). level sizes nodes (suc j)) e, level_terminal sizes nodes))
        | inr e ↦ let same : suc j - 1 ≡ j = omega arith in rw same (at_get_d nodes j (record { var = 0; edges = [] }) (omega arith))
      ]

  -- no variable is left: the terminal
  at_end : (k : ℕ) → NodeOrTerminal k → length sizes ≤ level sizes nodes k → k ≡ suc (length nodes)
  at_end zero at l = absurd (omega (arith, at.positive))
  at_end (suc j) at l =
      elim (eq-or-lt_of_le at.within) [
        | inl e ↦ e
        | inr e ↦
            let h = at_get_d nodes j (record { var = 0; edges = [] }) (omega arith) in
            absurd (omega (arith, level_node sizes h, (wf.nodes h).var_below))
      ]

  -- ---- the walk from number k, after the values `done` of the variables before v

  pub record First (k : ℕ) (left done z : List ℕ) : Type 0 where
    pub inside : Inside left z
    pub costs_it : cost_from k (done ++ z) ≡ from k
    pub most : (s : List ℕ) → Inside left s → cost_from k (done ++ s) ≤ from k
    pub first : (s : List ℕ) → Inside left s → cost_from k (done ++ s) ≡ from k → (z ≡ s) ⊎ Smaller z s

  -- at the terminal
  first_end : (done : List ℕ) → First (suc (length nodes)) [] done []
  first_end done =
      let z : cost_from (suc (length nodes)) (done ++ []) ≡ 0 = ap (λ (w : Walk). w.cost) (walk_past_lem (done ++ []) 1 (suc (length nodes)) nodes (omega arith)) in
      let e : from (suc (length nodes)) ≡ 0 = pass_terminal (greatest_pass sizes) nodes in
      record { inside = tt; costs_it = z ∙ sym e; most = none_more z; first = alone }
    where
      none_more : cost_from (suc (length nodes)) (done ++ []) ≡ 0 → (s : List ℕ) → Inside [] s → cost_from (suc (length nodes)) (done ++ s) ≤ from (suc (length nodes))
      none_more z [] i = omega arith
      none_more z (d ∷ s) i = absurd i

      alone : (s : List ℕ) → Inside [] s → cost_from (suc (length nodes)) (done ++ s) ≡ from (suc (length nodes)) → ([] ≡ s) ⊎ Smaller [] s
      alone [] i c = inl refl
      alone (d ∷ s) i c = absurd i

  -- past a variable that node k does not test
  first_past : (k values : ℕ) {left done z : List ℕ} → 0 < values → ((d : ℕ) → First k left (done ++ d ∷ []) z) → First k (values ∷ left) done (0 ∷ z)
  first_past k values {left} {done} {z} one later = record {
    inside = (one, (later 0).inside);
    costs_it = ap (cost_from k) (sym (append_snoc done 0 z)) ∙ (later 0).costs_it;
    most = most;
    first = first;
  }
    where
      most : (s : List ℕ) → Inside (values ∷ left) s → cost_from k (done ++ s) ≤ from k
      most [] i = absurd i
      most (d ∷ s) i = subst (λ (t : List ℕ). cost_from k t ≤ from k) (append_snoc done d s) ((later d).most s i.1)

      first : (s : List ℕ) → Inside (values ∷ left) s → cost_from k (done ++ s) ≡ from k → (0 ∷ z ≡ s) ⊎ Smaller (0 ∷ z) s
      first [] i c = absurd i
      first (zero ∷ s) i c =
          elim ((later 0).first s i.1 (ap (cost_from k) (append_snoc done 0 s) ∙ c)) [ inl e ↦ inl (ap (λ (l : List ℕ). 0 ∷ l) e) | inr l ↦ inr (inr (refl, l)) ]
      first (suc d ∷ s) i c = inr (inl (omega arith))

  -- past one that it tests, by its first value that keeps the greatest, where `rest` are the values behind each value
  first_by : {j : ℕ} {nd : Node} (h : At nodes j nd) {values : ℕ} (is : values ≡ get_or sizes nd.var 0) {left done : List ℕ} (rest : ℕ → List ℕ) {d : ℕ} → FirstCosting (by h is) (from (suc j)) values d → length done ≡ nd.var
      → ((d : ℕ) → d < values → First (edge_for nd d).target left (done ++ d ∷ []) (rest d)) → First (suc j) (values ∷ left) done (d ∷ rest d)
  first_by {j} {nd} h {values} is {left} {done} rest {d} o n later =
      let on = later d o.below in
      record {
        inside = (o.below, on.inside);
        costs_it = cost_by_lem h is done n d o.below (rest d) ∙ ap (λ (c : ℕ). (edge_for nd d).weight + c) on.costs_it ∙ o.cost_is;
        most = most;
        first = first;
      }
    where
      most : (s : List ℕ) → Inside (values ∷ left) s → cost_from (suc j) (done ++ s) ≤ from (suc j)
      most [] i = absurd i
      most (e ∷ s) i = omega (arith, cost_by_lem h is done n e i.0 s, (later e i.0).most s i.1, by_most h is e i.0)

      -- a state that costs as much keeps the greatest by its value, and from there on
      first : (s : List ℕ) → Inside (values ∷ left) s → cost_from (suc j) (done ++ s) ≡ from (suc j) → (d ∷ rest d ≡ s) ⊎ Smaller (d ∷ rest d) s
      first [] i c = absurd i
      first (e ∷ s) i c =
          let r = later e i.0 in
          let paid = cost_by_lem h is done n e i.0 s in
          let less = r.most s i.1 in
          let whole = by_most h is e i.0 in
          let kept : by h is e ≡ from (suc j) = omega arith in
          let same : cost_from (edge_for nd e).target ((done ++ e ∷ []) ++ s) ≡ from (edge_for nd e).target = omega arith in
          elim (eq-or-lt_of_le (o.first e kept)) [
            | inr l ↦ inr (inl l)
            | inl q ↦
                subst (λ (d : ℕ). (d ∷ rest d ≡ e ∷ s) ⊎ Smaller (d ∷ rest d) (e ∷ s)) (sym q)
                (elim (r.first s i.1 same) [ inl z ↦ inl (ap (λ (l : List ℕ). e ∷ l) z) | inr l ↦ inr (inr (refl, l)) ])
          ]

  -- ---- from any number on, for the variables from v on

  -- by whether the number's level is v
  abbrev turn : ℕ → ℕ → ℕ → List ℕ → Bool → List ℕ
  turn k v values left b =
      let d = elim b as (λ b. ℕ) [ true ↦ first_costing (cost_by sizes nodes k) (from k) values | false ↦ 0 ] in
      d ∷ walk_values sizes nodes (elim b as (λ b. ℕ) [ true ↦ (edge_for (node_of sizes nodes k) d).target | false ↦ k ]) (suc v) left

  module _ {v j values : ℕ} {left done : List ℕ} (size_is : values ≡ get_or sizes v 0) (n : length done ≡ v) (at : j ≤ length nodes) (low : v ≤ level sizes nodes (suc j)) (few : v < length sizes)
      (later : (k d : ℕ) → NodeOrTerminal k → suc v ≤ level sizes nodes k → First k left (done ++ d ∷ []) (walk_values sizes nodes k (suc v) left)) where
    first_turn : (b : Bool) → eqb (level sizes nodes (suc j)) v ≡ b → First (suc j) (values ∷ left) done (turn (suc j) v values left b)
    first_turn true e =
        let l = eqb-true (level sizes nodes (suc j)) v e in
        let h = node_testing j at (omega arith) in
        let var : (node_of sizes nodes (suc j)).var ≡ v = sym (level_node sizes h) ∙ l in
        let is : values ≡ get_or sizes (node_of sizes nodes (suc j)).var 0 = size_is ∙ ap (λ (u : ℕ). get_or sizes u 0) (sym var) in
        first_by h is (λ d. walk_values sizes nodes (edge_for (node_of sizes nodes (suc j)) d).target (suc v) left) (first_kept h is) (n ∙ sym var) (λ d below.
        let w = edge_good h is below in
        later (edge_for (node_of sizes nodes (suc j)) d).target d (record { positive = omega (arith, w.above); within = w.within }) (omega (arith, w.rises)))
    first_turn false e =
        let l = eqb-false (level sizes nodes (suc j)) v e in
        let one = all_at (λ (d : ℕ). 0 < d) some_value (at_get_d sizes v 0 few) in
        first_past (suc j) values (omega arith) (λ d. later (suc j) d (record { positive = omega arith; within = omega arith }) (omega arith))

  pub walk_first : (k v : ℕ) (left done : List ℕ) → left ≡ drop v sizes → length done ≡ v → NodeOrTerminal k → v ≤ level sizes nodes k → First k left done (walk_values sizes nodes k v left)
  walk_first k v [] done is n at low =
      let end = at_end k at (omega (arith, length-drop v sizes, ap length is)) in
      rw end (first_end done)
  walk_first zero v (values ∷ left) done is n at low = absurd (omega (arith, at.positive))
  walk_first (suc j) v (values ∷ left) done is n at low =
      let few : v < length sizes = omega (arith, length-drop v sizes, ap length is) in
      let cut = is ∙ drop-cons sizes v 0 few in
      first_turn (ap (λ (l : List ℕ). get_or l 0 0) cut) n (omega (arith, at.within)) low few
      (λ k d at low. walk_first k (suc v) left (done ++ d ∷ []) (ap (drop 1) cut) (omega (arith, length-append done (d ∷ []))) at low)
      (eqb (level sizes nodes (suc j)) v) refl
