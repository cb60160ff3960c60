-- Laws of reading a diagram: the nodes of an accepted one are well-formed, and how many bytes they have at most.
use Rattle.std.specs.Prelude.{◌≡◌, ◌&&◌, List}
use Rattle.std.proofs.Math.Path.{refl, sym, ap, ap₂}
use Rattle.std.proofs.Common.{◌∙◌, subst, subst₂, arith}
use Prim.Native.Nat.{ℕ, zero, suc, ◌+◌, ◌*◌, ◌≤◌, ◌<◌}
use Rattle.std.proofs.Math.Bool.{and-eq-true_iff}
use Rattle.std.proofs.Math.Dec.{leb, ltb}
use Rattle.std.proofs.Math.ListN.{length, get_or}
use borrow.Author.Tests.{leb-true, ltb-true}
use Rattle.facts.specs.Read.{Read, accepted, check}
use Rattle.facts.specs.ReadLaws.{through, checked, value_of_lem, carried}
use Rattle.facts.specs.Lists.{up_from, All, Zip, nil, cons, At, here, there}
use Rattle.facts.specs.ListLaws.{length_up_from, at_none, at_get_d, all_at}
use Rattle.facts.specs.Bytes.{number_at, Bytes}
use Rattle.facts.specs.BytesLaws.{number_one, two_below}
use Rattle.facts.specs.Fields.{each, read_count, read_weight}
use Rattle.facts.specs.EachLaws.{each_split, each_zip, each_length, each_next}
use Rattle.facts.specs.FieldLaws.{Counted, Valued, taken, count_read, weight_read}
use Rattle.facts.specs.FrontLaws.{each_most}
use Rattle.taskfile.specs.Task.{Edge, Node, max_values, max_weight, level, WfNode}
use Rattle.taskfile.specs.TaskFile.{edge_bytes, node_bytes, check_targets, check_rising, read_variable, read_target, read_edge, read_edges, read_node, read_nodes, read_diagram}
use Rattle.taskfile.specs.PartsInPlace.{Tests}

-- each domain size is in its range
abbrev pub Small : List ℕ → Type 0
Small sizes = All (λ d. (2 ≤ d) × (d ≤ max_values)) sizes

pub small_at : (sizes : List ℕ) (v : ℕ) → Small sizes → v < length sizes → get_or sizes v 0 ≤ max_values
small_at sizes v h l = (all_at (λ d. (2 ≤ d) × (d ≤ max_values)) h (at_get_d sizes v 0 l)).1

-- the most bytes that a node has
abbrev pub node_most : ℕ
node_most = 1 + edge_bytes * max_values

-- ---- elements one after the other

-- the element at index j goes with the number k + j
zip_number : {X : Type 0} (R : ℕ → X → Type 0) (k n q : ℕ) {xs : List X} {j : ℕ} {x : X} → Zip R (up_from k n) xs → At xs j x → q ≡ k + j → R q x
zip_number R k zero q nil a e = absurd (at_none a)
zip_number R k (suc n) q {x = x} (cons r z) here e = subst (λ (i : ℕ). R i x) (omega arith) r
zip_number R k (suc n) q (cons r z) (there a) e = zip_number R (suc k) n q z a (omega arith)

-- items of w bytes each, numbered from k on: the one at index j lies at that multiple of w
each_lies : {X : Type 0} (read : ℕ → ℕ → Read (X × ℕ)) (w : ℕ) → ((i : ℕ) (x : X) (at e : ℕ) → read i at ≡ accepted (x, e) → e ≡ at + w)
    → (k n at q o : ℕ) {xs : List X} {e j : ℕ} {x : X} → each read (up_from k n) at ≡ accepted (xs, e) → At xs j x → q ≡ k + j → o ≡ at + w * j → read q o ≡ accepted (x, o + w)
each_lies {X} read w h k zero at q o {j = j} {x = x} g a l m = absurd (at_none (subst (λ (xs : List X). At xs j x) (sym (value_of_lem g)) a))
each_lies read w h k (suc n) at q o {e = e} g (here {x = x} {xs = xs}) l m =
    let s = each_split read k (up_from (suc k) n) at x xs e g in
    let number : k ≡ q = omega arith in
    let place : at ≡ o = omega arith in
    subst₂ (λ (i p : ℕ). read i p ≡ accepted (x, p + w)) number place (s.first ∙ ap (λ (n : ℕ). accepted (x, n)) (h k x at s.next s.first))
each_lies read w h k (suc n) at q o {e = e} g (there {y = y} {xs = xs} a) l m =
    let s = each_split read k (up_from (suc k) n) at y xs e g in
    each_lies read w h (suc k) n s.next q o s.others a (omega arith) (omega (arith, h k y at s.next s.first))

-- ---- the variables along the edges

module _ (sizes : List ℕ) (nodes : List Node) where
  targets_rise_lem : (v at : ℕ) {edges : List Edge} {d : ℕ} {e : Edge} {u : Unit {0}} → check_targets sizes nodes v edges at ≡ accepted u → At edges d e → v < level sizes nodes e.target
  targets_rise_lem v at h (here {x = e}) =
      let test = ltb v (level sizes nodes e.target) in
      ltb-true v (level sizes nodes e.target) (checked test 6 at (through (check test 6 at) h).first)
  targets_rise_lem v at h (there {y = e} a) = targets_rise_lem v (at + edge_bytes) (through (check (ltb v (level sizes nodes e.target)) 6 at) h).then a

  nodes_rise_lem : (at : ℕ) {left : List Node} {j d : ℕ} {nd : Node} {e : Edge} {u : Unit {0}} → check_rising sizes nodes left at ≡ accepted u → At left j nd → At nd.edges d e
      → nd.var < level sizes nodes e.target
  nodes_rise_lem at h (here {x = nd}) a = targets_rise_lem nd.var (at + 1) (through (check_targets sizes nodes nd.var nd.edges (at + 1)) h).first a
  nodes_rise_lem at h (there {y = nd} b) a = nodes_rise_lem (at + node_bytes nd) (through (check_targets sizes nodes nd.var nd.edges (at + 1)) h).then b a

-- ---- in the file f

module _ (f : List ℕ) where
  pub variable_read : (n at : ℕ) {v e : ℕ} → read_variable f n at ≡ accepted (v, e) → Valued f n at v e
  unfolding read_variable
  variable_read n at {v} h =
      let t = taken f 1 (λ v. ltb v n) 6 at h in
      record { under = ltb-true v n t.passes; fits = t.number.fits; value = t.number.value; next = t.next }

  pub target_read : (m i at : ℕ) {t e : ℕ} → read_target f m i at ≡ accepted (t, e) → Counted f (suc i) (suc m) at t e
  unfolding read_target
  target_read m i at {t} h =
      let r = taken f 1 (λ t. ltb i t && leb t (suc m)) 6 at h in
      let b = (and-eq-true_iff (ltb i t) (leb t (suc m))).0 r.passes in
      record { least = ltb-true i t b.0; most = leb-true t (suc m) b.1; fits = r.number.fits; value = r.number.value; next = r.next }

  -- an edge of node i, of m, at an offset
  pub record EdgeRead (m i at : ℕ) (e : Edge) (end : ℕ) : Type 0 where
    pub above : i < e.target
    pub within : e.target ≤ suc m
    pub target : number_at 1 f at ≡ e.target
    pub weight : number_at 2 f (at + 1) ≡ e.weight
    pub next : end ≡ at + edge_bytes
    pub fits : end ≤ length f

  pub edge_read : (m i at : ℕ) {e : Edge} {end : ℕ} → read_edge f m i at ≡ accepted (e, end) → EdgeRead m i at e end
  unfolding read_edge
  edge_read m i at h =
      let o = through (read_target f m i at) h in
      let q = through (read_weight f o.got.1) o.then in
      let t = target_read m i at o.first in
      let w = weight_read f o.got.1 q.first in
      carried q.then (EdgeRead m i at) (record {
        above = t.least;
        within = t.most;
        target = t.value;
        weight = ap (number_at 2 f) (sym t.next) ∙ w.value;
        next = omega (arith, t.next, w.next);
        fits = omega (arith, w.next, w.fits);
      })

  pub edge_weight : {m i at : ℕ} {e : Edge} {end : ℕ} → EdgeRead m i at e end → Bytes f → e.weight ≤ max_weight
  edge_weight {at = at} r bytes = rw r.weight at (two_below f (at + 1) bytes)

  -- node i, of m, at an offset
  pub record NodeRead (sizes : List ℕ) (m i at : ℕ) (nd : Node) (end : ℕ) : Type 0 where
    pub var : Valued f (length sizes) at nd.var (at + 1)
    pub edges : read_edges f m i (get_or sizes nd.var 0) (at + 1) ≡ accepted (nd.edges, end)
    pub edge_count_lem : length nd.edges ≡ get_or sizes nd.var 0
    pub next : end ≡ at + node_bytes nd

  pub node_read : (sizes : List ℕ) (m i at : ℕ) {nd : Node} {end : ℕ} → read_node f sizes m i at ≡ accepted (nd, end) → NodeRead sizes m i at nd end
  unfolding read_node read_edges
  node_read sizes m i at h =
      let o = through (read_variable f (length sizes) at) h in
      let d = get_or sizes o.got.0 0 in
      let q = through (read_edges f m i d o.got.1) o.then in
      let v = variable_read (length sizes) at o.first in
      let count : length q.got.0 ≡ d = sym (each_length (λ (x : ℕ). read_edge f m i) (up_from 0 d) o.got.1 q.first) ∙ length_up_from 0 d in
      carried q.then (NodeRead sizes m i at) (record {
        var = record { under = v.under; fits = v.fits; value = v.value; next = refl };
        edges = ap (read_edges f m i d) (sym v.next) ∙ q.first;
        edge_count_lem = count;
        next = omega (arith, v.next, count, length_up_from 0 d, each_next (λ (x : ℕ). read_edge f m i) edge_bytes (λ x e at end g. (edge_read m i at g).next) (up_from 0 d) o.got.1 q.first);
      })

  -- the edge for the value d of a node that was read
  pub node_edge : {sizes : List ℕ} {m i at : ℕ} {nd : Node} {end : ℕ} → NodeRead sizes m i at nd end → {d : ℕ} {e : Edge} → At nd.edges d e
      → (o : ℕ) → o ≡ at + (1 + edge_bytes * d) → EdgeRead m i o e (o + edge_bytes)
  unfolding read_edges
  node_edge {sizes} {m} {i} {at} {nd} r {d} a o h =
      edge_read m i o (each_lies (λ (x : ℕ). read_edge f m i) edge_bytes (λ x e at end g. (edge_read m i at g).next) 0 (get_or sizes nd.var 0) (at + 1) d o r.edges a (omega arith) (omega arith))

  -- its last edge ends within the file
  node_ends_by : {sizes : List ℕ} {m i at : ℕ} {nd : Node} {end : ℕ} → NodeRead sizes m i at nd end → (count : ℕ) → length nd.edges ≡ count → at + (1 + edge_bytes * count) ≤ length f
  node_ends_by r zero e = omega (arith, r.var.fits)
  node_ends_by {at = at} {nd = nd} r (suc count) e = omega (arith, (node_edge r (at_get_d nd.edges count (record { target = 0; weight = 0 }) (omega (arith, e))) (at + (1 + edge_bytes * count)) refl).fits)

  -- it tests one of the variables, and ends within the file
  pub node_tests : {sizes : List ℕ} {m i at : ℕ} {nd : Node} {end : ℕ} → NodeRead sizes m i at nd end → Tests f sizes at
  node_tests {sizes} {at = at} {nd = nd} r =
      let var : get_or f at 0 ≡ nd.var = sym (number_one f at (omega (arith, r.var.fits))) ∙ r.var.value in
      record { fits = node_ends_by r _ (r.edge_count_lem ∙ ap (λ (v : ℕ). get_or sizes v 0) (sym var)); below = rw var r.var.under }

  pub node_most_lem : (sizes : List ℕ) (m i at : ℕ) {nd : Node} {end : ℕ} → Small sizes → read_node f sizes m i at ≡ accepted (nd, end) → end ≤ at + node_most
  node_most_lem sizes m i at {nd} small h =
      let n = node_read sizes m i at h in
      omega (arith, n.next, n.edge_count_lem, small_at sizes nd.var small n.var.under)

  -- ---- a diagram with at most `left` nodes

  pub record DiagramRead (sizes : List ℕ) (left at : ℕ) (nodes : List Node) (end : ℕ) : Type 0 where
    pub count_is : read_count f 0 left at ≡ accepted (length nodes, at + 1)
    pub nodes_are : read_nodes f sizes (length nodes) (at + 1) ≡ accepted (nodes, end)
    pub rises : check_rising sizes nodes nodes (at + 1) ≡ accepted tt

  pub diagram_read : (sizes : List ℕ) (left at : ℕ) {nodes : List Node} {end : ℕ} → read_diagram f sizes left at ≡ accepted (nodes, end) → DiagramRead sizes left at nodes end
  unfolding read_diagram read_nodes
  diagram_read sizes left at h =
      let a = through (read_count f 0 left at) h in
      let m = a.got.0 in
      let b = through (read_nodes f sizes m a.got.1) a.then in
      let nodes = b.got.0 in
      let c = through (check_rising sizes nodes nodes a.got.1) b.then in
      let next = (count_read f 0 left at a.first).next in
      let all : m ≡ length nodes = sym (length_up_from 1 m) ∙ each_length (read_node f sizes m) (up_from 1 m) a.got.1 b.first in
      carried c.then (DiagramRead sizes left at) (record {
        count_is = a.first ∙ ap₂ (λ (n e : ℕ). accepted (n, e)) all next;
        nodes_are = ap₂ (read_nodes f sizes) (sym all) (sym next) ∙ b.first;
        rises = ap (check_rising sizes nodes nodes) (sym next) ∙ c.first;
      })

  module _ {sizes : List ℕ} {left at : ℕ} {nodes : List Node} {end : ℕ} (r : DiagramRead sizes left at nodes end) where
    -- each node was read, at some offset
    pub node_lies : {j : ℕ} {nd : Node} → At nodes j nd → (o e : ℕ) × NodeRead sizes (length nodes) (suc j) o nd e
    unfolding read_nodes
    node_lies {j} h =
        let m = length nodes in
        let R : ℕ → Node → Type 0 = λ i nd. (o e : ℕ) × NodeRead sizes (length nodes) i o nd e in
        zip_number R 1 m (suc j) (each_zip (read_node f sizes m) R (λ i nd o e g. (o, e, node_read sizes m i o g)) (up_from 1 m) (at + 1) r.nodes_are) h (omega arith)

    pub diagram_wf : {j : ℕ} {nd : Node} → At nodes j nd → WfNode sizes nodes (suc j) nd
    diagram_wf h =
        let n = (node_lies h).2 in
        record {
          var_below = n.var.under;
          edge_count_lem = n.edge_count_lem;
          edges = λ a. let e = node_edge n a _ refl in record { above = e.above; within = e.within; rises = nodes_rise_lem sizes nodes (at + 1) r.rises h a };
        }

    pub diagram_weights : Bytes f → {j d : ℕ} {nd : Node} {e : Edge} → At nodes j nd → At nd.edges d e → e.weight ≤ max_weight
    diagram_weights bytes h a = edge_weight (node_edge (node_lies h).2 a _ refl) bytes

    pub diagram_most : Small sizes → end ≤ at + (1 + node_most * length nodes)
    unfolding read_nodes
    diagram_most small =
        let m = length nodes in
        omega (arith, length_up_from 1 m, each_most (read_node f sizes m) node_most (λ i nd o e g. node_most_lem sizes m i o small g) (up_from 1 m) (at + 1) r.nodes_are)
