-- Laws of targets that rise: the ways in which reading a target, an edge, a node and a diagram can go, and that the check in place is the check of what was read.
use Rattle.std.specs.Prelude.{◌≡◌, Bool, true, false, ◌&&◌, leb, length}
use Rattle.std.proofs.Math.Path.{refl, sym, ap, ap₂, subst}
use Rattle.std.proofs.Common.{◌∙◌, lt_of_not-le, le-leb, le-ltb, lt-ltb}
use Prim.Native.Nat.{ℕ, zero, suc, ◌+◌, ◌-◌, ◌≤◌, ◌<◌}
use Rattle.std.proofs.Math.Decide.{dec_le}
use Rattle.std.proofs.Math.Numerals.{add-one}
use native.Mathlib.Omega.{arith}
use mathlib.Core.List.{List, [], ◌∷◌, map}
use Rattle.std.proofs.Math.Dec.{ltb}
use Rattle.std.proofs.Math.ListN.{get_or}
use Rattle.std.proofs.lemmas.Bool.{lt-leb}
use Rattle.facts.specs.Read.{Read, accepted, refused, check, ◌>>=◌}
use Rattle.facts.specs.ReadLaws.{through, made, not_made, value_of_lem}
use Rattle.facts.specs.Lists.{up_from, At, here, there}
use Rattle.facts.specs.ListLaws.{at_get_d}
use Rattle.facts.specs.BytesLaws.{number_one}
use Rattle.facts.specs.Fields.{each, next_of, value_of, read_number, read_count, read_weight}
use Rattle.facts.specs.FieldLaws.{byte_ends, byte_wrong, byte_good, number_reads, field_refused, field_good}
use Rattle.taskfile.specs.Task.{Edge, Node, max_variables, level}
use Rattle.taskfile.specs.TaskFile.{edge_bytes, node_bytes, check_targets, check_rising, read_variable, read_target, read_edge, read_edges, read_node, read_nodes, read_diagram}
use Rattle.taskfile.specs.InPlace.{terminal_level, targets_rise, nodes_rise, Levels, read_first, Marked, diagram_at}
use Rattle.taskfile.specs.NotedLaws.{nodes_length, var_noted, first_next, count_is, nodes, nodes_are}
use Rattle.taskfile.specs.DiagramReadLaws.{edge_read, node_read}

-- ---- targets ahead of node i, of m

module _ (m i : ℕ) where
  abbrev Ahead : ℕ → Bool
  Ahead t = ltb i t && leb t (suc m)

  pub not_ahead : (t : ℕ) → t ≤ i → false ≡ Ahead t
  not_ahead t h = rw (le-ltb i t h)

  pub ahead_is : (t : ℕ) → i < t → leb (t - 1) m ≡ Ahead t
  ahead_is t h = rw (lt-ltb i t h) (elim (dec_le t (suc m)) [ yes k ↦ le-leb (t - 1) m (omega arith) ∙ sym (le-leb t (suc m) k) | no k ↦ lt-leb (t - 1) m (omega (arith, lt_of_not-le k)) ∙ sym (lt-leb t (suc m) (lt_of_not-le k)) ])

module _ (f : List ℕ) where
  -- ---- the ways in which a target can go

  module _ (m i at : ℕ) where
    pub target_ends : length f ≤ at → read_target f m i at ≡ refused 1 at
    unfolding read_target
    target_ends h = byte_ends f (Ahead m i) 6 at h

    pub target_wrong : at < length f → Ahead m i (get_or f at 0) ≡ false → read_target f m i at ≡ refused 6 at
    unfolding read_target
    target_wrong h g = byte_wrong f (Ahead m i) 6 at h g

    pub target_good : at < length f → Ahead m i (get_or f at 0) ≡ true → read_target f m i at ≡ accepted (get_or f at 0, at + 1)
    unfolding read_target
    target_good h g = byte_good f (Ahead m i) 6 at h g

    -- ---- the ways in which an edge can go, past it

    pub edge_no_target : {n p : ℕ} → next_of (read_target f m i at) ≡ refused n p → next_of (read_edge f m i at) ≡ refused n p
    unfolding read_edge
    edge_no_target h = rw (not_made (λ (p : ℕ × ℕ). p.1) (read_target f m i at) h)

    module _ {weight : ℕ} (h : next_of (read_target f m i at) ≡ accepted weight) where
      abbrev target : ℕ
      target = (made (λ (p : ℕ × ℕ). p.1) (read_target f m i at) h).from.0

      target_is : read_target f m i at ≡ accepted (target, weight)
      target_is = let t = made (λ (p : ℕ × ℕ). p.1) (read_target f m i at) h in t.answer ∙ ap (λ (e : ℕ). accepted (target, e)) t.value

      pub edge_no_weight : {n p : ℕ} → read_number f 2 weight ≡ refused n p → next_of (read_edge f m i at) ≡ refused n p
      unfolding read_edge read_weight
      edge_no_weight e = rw (target_is, field_refused f 2 (λ w. true) 3 weight e)

      pub edge_good : {n : ℕ} → read_number f 2 weight ≡ accepted n → next_of (read_edge f m i at) ≡ accepted (weight + 2)
      unfolding read_edge read_weight
      edge_good e = rw (target_is, field_good f 2 (λ w. true) 3 weight e refl)

    -- the same by its bytes, where the file has them
    pub edge_wrong : at < length f → Ahead m i (get_or f at 0) ≡ false → next_of (read_edge f m i at) ≡ refused 6 at
    edge_wrong h g = edge_no_target (ap next_of (target_wrong h g))

    pub edge_whole : at + edge_bytes ≤ length f → Ahead m i (get_or f at 0) ≡ true → next_of (read_edge f m i at) ≡ accepted (at + edge_bytes)
    edge_whole h g = edge_good (ap next_of (target_good (omega arith) g)) (number_reads f 2 (at + 1) (omega arith)) ∙ ap accepted (omega arith)

  -- ---- the ways in which a node can go, past it

  module _ (sizes : List ℕ) (m i at : ℕ) where
    pub node_ends : length f ≤ at → next_of (read_node f sizes m i at) ≡ refused 1 at
    unfolding read_node read_variable
    node_ends h = rw (byte_ends f (λ v. ltb v (length sizes)) 6 at h)

    pub node_no_variable : at < length f → length sizes ≤ get_or f at 0 → next_of (read_node f sizes m i at) ≡ refused 6 at
    unfolding read_node read_variable
    node_no_variable h l = rw (byte_wrong f (λ v. ltb v (length sizes)) 6 at h (le-ltb (get_or f at 0) (length sizes) l))

    pub node_edges : at < length f → get_or f at 0 < length sizes → next_of (read_node f sizes m i at) ≡ next_of (read_edges f m i (get_or sizes (get_or f at 0) 0) (at + 1))
    unfolding read_node read_variable
    node_edges h l = rw (byte_good f (λ v. ltb v (length sizes)) 6 at h (lt-ltb (get_or f at 0) (length sizes) l)) (last (read_edges f m i (get_or sizes (get_or f at 0) 0) (at + 1)))
      where
        last : (r : Read (List Edge × ℕ)) → next_of {X = Node} (◌>>=◌ r (λ (p : List Edge × ℕ). accepted (record { var = get_or f at 0; edges = p.0 }, p.1))) ≡ next_of r
        last (accepted p) = refl
        last (refused n p) = refl

-- ---- the ways in which the checks in place can go

module _ (f levels : List ℕ) (v at : ℕ) where
  abbrev here_above : ℕ
  here_above = get_or levels (get_or f at 0) terminal_level

  pub targets_fall : (left : ℕ) → 0 < left → here_above ≤ v → targets_rise f levels v left at ≡ refused 6 at
  unfolding targets_rise
  targets_fall zero l h = absurd (omega arith)
  targets_fall (suc left) l h = rw (le-ltb v here_above h)

  pub targets_on : (left : ℕ) → 0 < left → v < here_above → targets_rise f levels v left at ≡ targets_rise f levels v (left - 1) (at + edge_bytes)
  unfolding targets_rise
  targets_on zero l h = absurd (omega arith)
  targets_on (suc left) l h =
      let e : left ≡ suc left - 1 = omega arith in
      rw (lt-ltb v here_above h) (ap (λ (k : ℕ). targets_rise f levels v k (at + edge_bytes)) e)

  pub targets_done : (left : ℕ) → left ≤ 0 → targets_rise f levels v left at ≡ accepted tt
  unfolding targets_rise
  targets_done zero l = refl
  targets_done (suc left) l = absurd (omega arith)

module _ (f sizes offsets levels : List ℕ) (j : ℕ) where
  -- the targets of the node that has the index j
  abbrev pub NodeRises : Read (Unit {0})
  NodeRises = targets_rise f levels (get_or f (get_or offsets j 0) 0) (get_or sizes (get_or f (get_or offsets j 0) 0) 0) (get_or offsets j 0 + 1)

  pub node_rises : {at v count : ℕ} → at ≡ get_or offsets j 0 → v ≡ get_or f at 0 → count ≡ get_or sizes v 0 → NodeRises ≡ targets_rise f levels v count (at + 1)
  node_rises a b c = rw (c, b, a)

  pub nodes_fall : (left : ℕ) {n p : ℕ} → 0 < left → NodeRises ≡ refused n p → nodes_rise f sizes offsets levels j left ≡ refused n p
  unfolding nodes_rise
  nodes_fall zero l h = absurd (omega arith)
  nodes_fall (suc left) l h = rw h

  pub nodes_on : (left : ℕ) → 0 < left → NodeRises ≡ accepted tt → nodes_rise f sizes offsets levels j left ≡ nodes_rise f sizes offsets levels (j + 1) (left - 1)
  unfolding nodes_rise
  nodes_on zero l h = absurd (omega arith)
  nodes_on (suc left) l h =
      let e : left ≡ suc left - 1 = omega arith in
      rw (h, add-one j) (ap (nodes_rise f sizes offsets levels (suc j)) e)

  pub nodes_done : (left : ℕ) → left ≤ 0 → nodes_rise f sizes offsets levels j left ≡ accepted tt
  unfolding nodes_rise
  nodes_done zero l = refl
  nodes_done (suc left) l = absurd (omega arith)

-- ---- the checks in place are the checks of what was read

abbrev var_of : Node → ℕ
var_of nd = nd.var

var_at : (d : ℕ) {nodes : List Node} {j : ℕ} {nd : Node} → At nodes j nd → get_or (map var_of nodes) j d ≡ nd.var
var_at d here = refl
var_at d (there a) = var_at d a

var_past : (d : ℕ) (nodes : List Node) (j : ℕ) → length nodes ≤ j → get_or (map var_of nodes) j d ≡ d
var_past d [] j l = refl
var_past d (nd ∷ nodes) zero l = absurd (omega arith)
var_past d (nd ∷ nodes) (suc j) l = var_past d nodes j (omega arith)

module _ (f sizes : List ℕ) (m from : ℕ) {nodes : List Node} {end : ℕ} (h : read_nodes f sizes m from ≡ accepted (nodes, end)) {offsets : List ℕ} (k : Marked f sizes m from offsets) {levels : List ℕ} (row : Levels f m offsets levels) (few : length sizes ≤ max_variables) where
  -- a variable is below that of a target by the row as by the nodes
  level_same : (v t : ℕ) → v < length sizes → 0 < t → ltb v (level sizes nodes t) ≡ ltb v (get_or levels t terminal_level)
  level_same v t b l = elim (dec_le t m) [
    | yes g ↦
        let none : Node = record { var = 0; edges = [] } in
        let a = at_get_d nodes (t - 1) none (omega (arith, nodes_length f sizes m from h)) in
        let number : 1 + (t - 1) ≡ t = omega (arith, l) in
        ap (ltb v) (var_at (length sizes) a ∙ sym (var_noted f sizes m from h k a) ∙ sym (row.own (t - 1) (omega (arith, g, l))) ∙ ap (λ (k : ℕ). get_or levels k terminal_level) number)
    | no g ↦
        let past = lt_of_not-le g in
        ap (ltb v) (var_past (length sizes) nodes (t - 1) (omega (arith, nodes_length f sizes m from h, past))) ∙ lt-ltb v (length sizes) b
        ∙ sym (ap (ltb v) (row.terminal t past) ∙ lt-ltb v terminal_level (omega (arith, b, few)))
  ]

  targets_same : (v i x d at : ℕ) {edges : List Edge} {e : ℕ} → v < length sizes → each (λ (x : ℕ). read_edge f m i) (up_from x d) at ≡ accepted (edges, e)
      → check_targets sizes nodes v edges at ≡ targets_rise f levels v d at
  unfolding targets_rise
  targets_same v i x zero at b g = ap (λ (es : List Edge). check_targets sizes nodes v es at) (sym (value_of_lem g))
  targets_same v i x (suc d) at b g =
      let o = through (read_edge f m i at) g in
      let p = through (each (λ (x : ℕ). read_edge f m i) (up_from (suc x) d) o.got.1) o.then in
      let e = edge_read f m i at o.first in
      let t = o.got.0.target in
      let byte : t ≡ get_or f at 0 = sym e.target ∙ number_one f at (omega (arith, e.fits, e.next)) in
      let same : ltb v (level sizes nodes t) ≡ ltb v (get_or levels (get_or f at 0) terminal_level) =
      level_same v t b (omega (arith, e.above)) ∙ ap (λ (k : ℕ). ltb v (get_or levels k terminal_level)) byte in
      let rest : check_targets sizes nodes v p.got.0 (at + edge_bytes) ≡ targets_rise f levels v d (at + edge_bytes)
      = subst (λ (q : ℕ). check_targets sizes nodes v p.got.0 q ≡ targets_rise f levels v d q) e.next (targets_same v i (suc x) d o.got.1 b p.first) in
      ap (λ (es : List Edge). check_targets sizes nodes v es at) (sym (value_of_lem p.then))
      ∙ ap₂ (λ (b : Bool) (r : Read (Unit {0})). ◌>>=◌ (check b 6 at) (λ u. r)) same rest

  nodes_same : (count j at : ℕ) {left : List Node} {e : ℕ} → j + count ≡ m → next_of (read_first f sizes m j from) ≡ accepted at
      → each (read_node f sizes m) (up_from (suc j) count) at ≡ accepted (left, e) → check_rising sizes nodes left at ≡ nodes_rise f sizes offsets levels j count
  unfolding nodes_rise read_edges
  nodes_same zero j at l q g = ap (λ (left : List Node). check_rising sizes nodes left at) (sym (value_of_lem g))
  nodes_same (suc count) j at l q g =
      let o = through (read_node f sizes m (suc j) at) g in
      let p = through (each (read_node f sizes m) (up_from (suc (suc j)) count) o.got.1) o.then in
      let n = node_read f sizes m (suc j) at o.first in
      let nd = o.got.0 in
      let noted : next_of (read_first f sizes m j from) ≡ accepted (get_or offsets j 0) = k.marks (ap next_of h) j (omega arith) in
      let here : at ≡ get_or offsets j 0 = cc in
      let byte : nd.var ≡ get_or f at 0 = sym n.var.value ∙ number_one f at (omega (arith, n.var.fits)) in
      let same : check_targets sizes nodes nd.var nd.edges (at + 1) ≡ NodeRises f sizes offsets levels j
      = targets_same nd.var (suc j) 0 (get_or sizes nd.var 0) (at + 1) n.var.under n.edges ∙ sym (node_rises f sizes offsets levels j here byte refl) in
      let rest : check_rising sizes nodes p.got.0 (at + node_bytes nd) ≡ nodes_rise f sizes offsets levels (suc j) count
      = subst (λ (q : ℕ). check_rising sizes nodes p.got.0 q ≡ nodes_rise f sizes offsets levels (suc j) count) n.next
      (nodes_same count (suc j) o.got.1 (omega arith) (first_next f sizes m from j q (ap next_of o.first)) p.first) in
      ap (λ (left : List Node). check_rising sizes nodes left at) (sym (value_of_lem p.then))
      ∙ ap₂ (λ (a b : Read (Unit {0})). ◌>>=◌ a (λ u. b)) same rest

  pub rising_same : check_rising sizes nodes nodes from ≡ nodes_rise f sizes offsets levels 0 m
  unfolding read_nodes read_first
  rising_same = nodes_same m 0 from (omega arith) refl h

-- ---- the ways in which a diagram can go, past it

module _ (f sizes : List ℕ) (left at : ℕ) where
  pub drawn_no_count : {n p : ℕ} → value_of (read_count f 0 left at) ≡ refused n p → diagram_at f sizes left at ≡ refused n p
  unfolding diagram_at read_diagram
  drawn_no_count h = rw (not_made (λ (p : ℕ × ℕ). p.0) (read_count f 0 left at) h)

  module _ {m : ℕ} (h : value_of (read_count f 0 left at) ≡ accepted m) where
    pub drawn_no_nodes : {n p : ℕ} → next_of (read_nodes f sizes m (at + 1)) ≡ refused n p → diagram_at f sizes left at ≡ refused n p
    unfolding diagram_at read_diagram
    drawn_no_nodes g = rw (count_is f sizes left at h, not_made (λ (p : List Node × ℕ). p.1) (read_nodes f sizes m (at + 1)) g)

    module _ {end : ℕ} (g : next_of (read_nodes f sizes m (at + 1)) ≡ accepted end) {offsets : List ℕ} (k : Marked f sizes m (at + 1) offsets)
        {levels : List ℕ} (row : Levels f m offsets levels) (few : length sizes ≤ max_variables) where
      read : read_nodes f sizes m (at + 1) ≡ accepted (nodes f sizes left at h g, end)
      read = nodes_are f sizes left at h g

      rises : check_rising sizes (nodes f sizes left at h g) (nodes f sizes left at h g) (at + 1) ≡ nodes_rise f sizes offsets levels 0 m
      rises = rising_same f sizes m (at + 1) read k row few

      pub drawn_falls : {n p : ℕ} → nodes_rise f sizes offsets levels 0 m ≡ refused n p → diagram_at f sizes left at ≡ refused n p
      unfolding diagram_at read_diagram
      drawn_falls e = rw (count_is f sizes left at h, read, rises, e)

      pub drawn_good : nodes_rise f sizes offsets levels 0 m ≡ accepted tt → diagram_at f sizes left at ≡ accepted (end, m)
      unfolding diagram_at read_diagram
      drawn_good e = rw (count_is f sizes left at h, read, rises, e) (ap (λ (n : ℕ). accepted (end, n)) (sym (nodes_length f sizes m (at + 1) read)))
