-- Laws of the dearest state in place: the table is filled from the last node to the first, and each turn of the walk is that of the nodes as values.
use Rattle.std.specs.Prelude.{◌≡◌, Bool, true, false, List, [], ◌∷◌, ◌++◌, map, eqb, length, get_or, drop, take, set, replicate, Option, None, Some}
use Rattle.std.proofs.Math.Path.{refl, ap₂}
use Rattle.std.proofs.Common.{sym, ap, ◌∙◌, arith, append-nil, drop_of_length-le, drop-cons, take-suc-set, take_all, eq-eqb, ne_eqb}
use Prim.Native.Nat.{ℕ, suc, ◌+◌, ◌-◌, ◌*◌, ◌≤◌, ◌<◌, max}
use Rattle.std.proofs.Math.Seq.{append_snoc}
use Rattle.facts.specs.Lists.{up_from, find, At, here, there}
use Rattle.facts.specs.ListLaws.{all_at}
use Rattle.facts.specs.Fields.{word_at}
use Rattle.taskfile.specs.Task.{Edge, Node, level}
use Rattle.taskfile.specs.TaskFile.{edge_bytes}
use Rattle.taskfile.specs.WalkLaws.{level_node, level_terminal}
use Rattle.taskfile.specs.WalkInPlace.{incoming_place, node_count}
use Rattle.taskfile.specs.PartsInPlace.{edge_in, node_in, action_in, Tests}
use Rattle.taskfile.specs.PartsInPlaceLaws.{nodes_long}
use Rattle.relaxation.specs.LeastLaws.{map_agree}
use Rattle.relaxation.specs.LeastCostLaws.{up_from_below}
use Rattle.relaxation.specs.Pass.{edge_for, by_edge}
use Rattle.relaxation.specs.PassLaws.{at_value, edge_inside, edges_above}
use Rattle.relaxation.specs.PassInPlaceLaws.{node_there, edge_there, table_start, table_next, table_end}
use Rattle.relaxation.specs.RelaxedInPlace.{greatest}
use Rattle.relaxation.specs.RelaxedInPlace.{cost_for}
use Rattle.dearest.specs.ByWalk.{greatest_pass, greatest_from, greatest_by_pass, first_costing, node_of, value_at, next_at, walk_values, dearest_by_walk}
use Rattle.dearest.specs.ByWalkLaws.{first_kept}
use Rattle.dearest.specs.InPlace.{Drawn, Edges, Table}

-- ---- the greatest of some values, and the first that costs m, value by value

module _ (costOf : ℕ → ℕ) where
  -- the values from d on
  abbrev from_on : ℕ → ℕ → List ℕ
  from_on size d = up_from d (size - d)

  from_next : (size d : ℕ) → d < size → from_on size d ≡ d ∷ from_on size (d + 1)
  from_next size d l =
      let n : size - d ≡ suc (size - (d + 1)) = omega arith in
      let e : suc d ≡ d + 1 = omega arith in
      ap (up_from d) n ∙ ap (λ (k : ℕ). d ∷ up_from k (size - (d + 1))) e

  -- the greatest so far, and those that are left
  pub record Choosing (size d most : ℕ) : Type 0 where
    pub left : greatest (map costOf (up_from 0 size)) ≡ max most (greatest (map costOf (from_on size d)))

  pub choosing_start : {size : ℕ} → Choosing size 0 0
  choosing_start {size} = let z : size - 0 ≡ size = omega arith in record { left = omega (arith, ap (λ (n : ℕ). greatest (map costOf (up_from 0 n))) z) }

  pub choosing_next : {size d most cost now : ℕ} → Choosing size d most → d < size → cost ≡ costOf d → now ≡ max most cost → Choosing size (d + 1) now
  choosing_next {size} {d} c l is e = record { left = omega (arith, c.left, ap (λ (ds : List ℕ). greatest (map costOf ds)) (from_next size d l)) }

  pub choosing_end : {size d most : ℕ} → Choosing size d most → size ≤ d → most ≡ greatest (map costOf (up_from 0 size))
  choosing_end {size} {d} c l =
      let z : size - d ≡ 0 = omega arith in
      omega (arith, c.left, ap (λ (n : ℕ). greatest (map costOf (up_from d n))) z)

  -- none before d costs m
  module _ (m : ℕ) where
    pub record Seeking (size d : ℕ) : Type 0 where
      pub left : find (λ d. eqb (costOf d) m) (up_from 0 size) ≡ find (λ d. eqb (costOf d) m) (from_on size d)

    pub seeking_start : {size : ℕ} → Seeking size 0
    seeking_start {size} = let z : size ≡ size - 0 = omega arith in record { left = ap (λ (n : ℕ). find (λ d. eqb (costOf d) m) (up_from 0 n)) z }

    pub seeking_next : {size d cost : ℕ} → Seeking size d → d < size → cost ≡ costOf d → (cost ≡ m → ⊥) → Seeking size (d + 1)
    seeking_next {size} {d} s l is other = record { left = s.left ∙ ap (find (λ d. eqb (costOf d) m)) (from_next size d l) ∙ rw (ne_eqb (costOf d) m (λ q. other (is ∙ q)), find) }

    pub seeking_found : {size d cost : ℕ} → Seeking size d → d < size → cost ≡ costOf d → cost ≡ m → d ≡ first_costing costOf m size
    seeking_found {size} {d} s l is same =
        let at : find (λ d. eqb (costOf d) m) (up_from 0 size) ≡ Some d = s.left ∙ ap (find (λ d. eqb (costOf d) m)) (from_next size d l) ∙ rw (eq-eqb (costOf d) m (sym is ∙ same), find) in
        rw (at, first_costing)

    pub seeking_none : {size d : ℕ} → Seeking size d → size ≤ d → 0 ≡ first_costing costOf m size
    seeking_none {size} {d} s l =
        let z : size - d ≡ 0 = omega arith in
        let at : find (λ d. eqb (costOf d) m) (up_from 0 size) ≡ None = s.left ∙ ap (λ (n : ℕ). find (λ d. eqb (costOf d) m) (up_from d n)) z in
        rw (at, first_costing)

-- it depends on what the values cost alone
first_agree : (f g : ℕ → ℕ) (m n size : ℕ) → m ≡ n → ((d : ℕ) → d < size → f d ≡ g d) → first_costing f m size ≡ first_costing g n size
first_agree f g m n size e h = ap (λ (o : Option ℕ). elim o as (λ o. ℕ) [ None ↦ 0 | Some d ↦ d ]) (go (up_from 0 size) (λ k d a. h d (all_at (λ (d : ℕ). d < size) (up_from_below 0 size size (omega arith)) a)))
  where
    go : (ds : List ℕ) → ((k d : ℕ) → At ds k d → f d ≡ g d) → find (λ d. eqb (f d) m) ds ≡ find (λ d. eqb (g d) n) ds
    go [] h = refl
    go (d ∷ ds) h = ap₂ (λ (b : Bool) (o : Option ℕ). elim b as (λ b. Option ℕ) [ true ↦ Some d | false ↦ o ]) (ap₂ eqb (h 0 d here) e) (go ds (λ k d a. h (suc k) d (there a)))

-- ---- the nodes of an action in place

module _ {f sizes : List ℕ} {at : ℕ} {offsets : List ℕ} (drawn : Drawn f sizes at offsets) where
  abbrev nodes : List Node
  nodes = (action_in f sizes at offsets).nodes

  nodes_are : length nodes ≡ node_count f at
  nodes_are = nodes_long f sizes offsets 0 (node_count f at)

  module _ {j node : ℕ} (l : j < node_count f at) (n : node ≡ get_or offsets j 0) where
    abbrev values : ℕ
    values = get_or sizes (get_or f node 0) 0

    stands : At nodes j (node_in f sizes node)
    stands = node_there f sizes offsets l n

    pub tests_there : Tests f sizes node
    tests_there = rw n (drawn.tests j l)

    -- the edges lead up, at most to the terminal
    target_up : (d : ℕ) → d < values → (suc j < (edge_in f (node + (1 + edge_bytes * d))).target) × ((edge_in f (node + (1 + edge_bytes * d))).target ≤ suc (node_count f at))
    target_up d below =
        let w = edge_inside drawn.wf stands below in
        let same = ap (λ (e : Edge). e.target) (edge_there f sizes node d below) in
        (omega (arith, w.above), omega (arith, w.within, nodes_are))

    pub edges_there : Edges f node values
    edges_there = record { fits = tests_there.fits; within = λ d below. omega (arith, (target_up d below).1, drawn.few) }

    -- one entry more
    pub greatest_next : {k e : ℕ} {table : List ℕ} → k ≡ suc j → Table f sizes at offsets k table → k < length table → e ≡ greatest (map (cost_for f node table) (up_from 0 values))
        → Table f sizes at offsets j (set table k e)
    greatest_next {k} {e} {table} same full room is =
        table_next (greatest_pass sizes) (λ n. n) f sizes offsets (node_count f at) e l n (edges_above (greatest_pass sizes) drawn.wf stands (up_from_below 0 values values (omega arith))) same full room
        (is ∙ ap greatest (map_agree (cost_for f node table) (by_edge (greatest_pass sizes) (node_in f sizes node) (λ t. get_or table t 0)) (up_from 0 values) (λ i d a.
        ap (λ (x : Edge). x.weight + get_or table x.target 0) (sym (edge_there f sizes node d (all_at (λ (d : ℕ). d < values) (up_from_below 0 values values (omega arith)) a))))))

    -- ---- a turn of the walk at node k

    module _ {k : ℕ} (same : k ≡ suc j) where
      node_is : node_in f sizes node ≡ node_of sizes nodes k
      node_is = at_value (record { var = 0; edges = [] }) stands (omega arith)

      pub level_is : level sizes nodes k ≡ get_or f node 0
      level_is = ap (level sizes nodes) same ∙ level_node sizes stands

      -- which tests another variable
      pub turn_other : {v : ℕ} (size : ℕ) → (get_or f node 0 ≡ v → ⊥) → (0 ≡ value_at sizes nodes k v size) × (k ≡ next_at sizes nodes k v 0)
      turn_other {v} size other = let no = ne_eqb (level sizes nodes k) v (λ q. other (sym level_is ∙ q)) in (rw (no, value_at), rw (no, next_at))

      module _ {v size value : ℕ} (tested : get_or f node 0 ≡ v) (size_is : size ≡ get_or sizes v 0) {table : List ℕ} (full : Table f sizes at offsets 0 table)
          (value_is : value ≡ first_costing (cost_for f node table) (get_or table k 0) size) where
        of_node : size ≡ values
        of_node = size_is ∙ ap (λ (u : ℕ). get_or sizes u 0) (sym tested)

        yes_tested : eqb (level sizes nodes k) v ≡ true
        yes_tested = eq-eqb (level sizes nodes k) v (level_is ∙ tested)

        -- the value is the first that keeps the greatest
        kept : value ≡ first_costing (by_edge (greatest_pass sizes) (node_in f sizes node) (greatest_from sizes nodes)) (greatest_from sizes nodes (suc j)) size
        kept =
            value_is
            ∙ first_agree _ _ _ _ size (full.at k (omega arith) ∙ ap (greatest_from sizes nodes) same) (λ d below.
            let e = sym (edge_there f sizes node d (omega (arith, of_node))) in
            ap (λ (x : Edge). x.weight + get_or table x.target 0) e
            ∙ ap (λ (c : ℕ). (edge_for (node_in f sizes node) d).weight + c) (full.at (edge_for (node_in f sizes node) d).target (omega (arith, (edge_inside {d = d} drawn.wf stands (omega (arith, of_node))).above))))

        pub turn_below : value < size
        turn_below = omega (arith, kept, (first_kept drawn.wf drawn.some_value stands of_node).below)

        pub turn_value : value ≡ value_at sizes nodes k v size
        turn_value =
            kept
            ∙ ap₂ (λ (nd : Node) (q : ℕ). first_costing (by_edge (greatest_pass sizes) nd (greatest_from sizes nodes)) (greatest_from sizes nodes q) size) node_is (sym same)
            ∙ rw (yes_tested, value_at)

        pub turn_next : get_or f (node + (1 + edge_bytes * value)) 0 ≡ next_at sizes nodes k v value
        turn_next =
            ap (λ (x : Edge). x.target) (sym (edge_there f sizes node value (omega (arith, turn_below, of_node))) ∙ ap (λ (nd : Node). edge_for nd value) node_is)
            ∙ rw (yes_tested, next_at)

        pub turn_up : (1 ≤ get_or f (node + (1 + edge_bytes * value)) 0) × (get_or f (node + (1 + edge_bytes * value)) 0 ≤ node_count f at + 1)
        turn_up = let u = target_up value (omega (arith, turn_below, of_node)) in (omega (arith, u.0), omega (arith, u.1))

  -- ---- a turn at the terminal

  pub turn_terminal : {k v : ℕ} (size : ℕ) → k ≡ suc (node_count f at) → v < length sizes → (0 ≡ value_at sizes nodes k v size) × (k ≡ next_at sizes nodes k v 0)
  turn_terminal {k} {v} size e l =
      let end : level sizes nodes k ≡ length sizes = ap (level sizes nodes) (e ∙ ap suc (sym nodes_are)) ∙ level_terminal sizes nodes in
      let no = ne_eqb (level sizes nodes k) v (λ q. omega arith) in
      (rw (no, value_at), rw (no, next_at))

  -- ---- the table

  pub greatest_start : (n : ℕ) {k : ℕ} → k ≡ node_count f at → Table f sizes at offsets k (replicate n 0)
  greatest_start n = table_start (greatest_pass sizes) (λ n. n) f sizes offsets (node_count f at) n refl

  pub greatest_end : {incoming k : ℕ} {table : List ℕ} → incoming ≡ word_at f (incoming_place f at) → k < 1 → Table f sizes at offsets k table
      → incoming + get_or table 1 0 ≡ greatest_by_pass sizes (action_in f sizes at offsets)
  unfolding greatest_by_pass
  greatest_end w first full = ap₂ ◌+◌ w (table_end (greatest_pass sizes) (λ n. n) f sizes offsets (node_count f at) first full)

  -- ---- the state, variable by variable

  -- the values before v, and those of the walk from number k
  pub record Walking (k v : ℕ) (state : List ℕ) : Type 0 where
    pub left : take v state ++ walk_values sizes nodes k v (drop v sizes) ≡ dearest_by_walk sizes (action_in f sizes at offsets)

  pub walking_start : (state : List ℕ) → Walking 1 0 state
  unfolding dearest_by_walk
  walking_start state = record { left = refl }

  pub walking_next : {k v value next : ℕ} {state : List ℕ} → Walking k v state → v < length sizes → length state ≡ length sizes → value ≡ value_at sizes nodes k v (get_or sizes v 0) → next ≡ next_at sizes nodes k v value
      → Walking next (v + 1) (set state v value)
  walking_next {k} {v} {value} {next} {state} w l n is goes =
      let up : v + 1 ≡ suc v = omega arith in
      rw up
      (record {
        left =
            ap₂ (λ (front : List ℕ) (k : ℕ). front ++ walk_values sizes nodes k (suc v) (drop (suc v) sizes)) (take-suc-set state v value (omega arith)) goes
            ∙ append_snoc (take v state) value (walk_values sizes nodes (next_at sizes nodes k v value) (suc v) (drop (suc v) sizes))
            ∙ ap (λ (d : ℕ). take v state ++ d ∷ walk_values sizes nodes (next_at sizes nodes k v d) (suc v) (drop (suc v) sizes)) is
            ∙ ap (λ (left : List ℕ). take v state ++ walk_values sizes nodes k v left) (sym (drop-cons sizes v 0 l))
            ∙ w.left;
      })

  pub walking_end : {k v : ℕ} {state : List ℕ} → Walking k v state → length sizes ≤ v → length state ≡ length sizes → state ≡ dearest_by_walk sizes (action_in f sizes at offsets)
  walking_end {k} {v} {state} w l n =
      sym (append-nil state)
      ∙ ap₂ (λ (front back : List ℕ). front ++ back) (sym (take_all v state (omega arith))) (ap (walk_values sizes nodes k v) (sym (drop_of_length-le sizes l)))
      ∙ w.left
