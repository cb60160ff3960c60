-- Laws of cost diagrams for Graphviz, from the bytes of a file.
use Rattle.std.specs.Prelude.{ℕ, zero, suc, ◌+◌, ◌*◌, ◌-◌, ◌≤◌, ◌<◌, ◌≡◌, refl, Bool, true, false, ◌||◌, List, [], ◌∷◌, ◌++◌, eqb, length, get_or, take, drop}
use Rattle.std.proofs.Common.{sym, ap, ap₂, ◌∙◌, arith, eq-eqb, ne_eqb}
use Rattle.std.specs.List.{list_any, range_with_len}
use Rattle.taskfile.specs.Task.{Edge, Action}
use Rattle.taskfile.specs.TaskFile.{edge_bytes}
use Rattle.taskfile.specs.PartsInPlace.{edge_in, edges_in, node_in, nodes_in}
use Rattle.taskfile.specs.PartsInPlaceLaws.{nodes_long}
use Rattle.compilation.specs.Compile.{flat}
use Rattle.text.specs.Text.{decimal}
use Rattle.text.specs.Append.{bytes}
use Rattle.text.specs.PrintLaws.{decimal_same, decimal_then}
use Rattle.words.specs.Dot.{node_name, alike, is_among, also_text, dot_arrow, dot_edge, dot_node, dot_action, dot_text}
use Rattle.text.specs.declared.append.Writer.{Writer}
use Rattle.text.specs.Writer.{Appends}
use Rattle.words.specs.Rows.{row_from, edge_for, node_for}
use Rattle.words.specs.RowLaws.{labelled_as, edges_row, edges_text, nodes_row}

-- ---- edges

-- Two edges by their parts, one test after the other.
module _ (e g : Edge) {target other : ℕ} (t : target ≡ e.target) (o : other ≡ g.target) where
  pub apart : (target ≡ other → ⊥) → false ≡ alike e g
  apart h = sym (rw (ne_eqb e.target g.target (λ q. h (t ∙ q ∙ sym o)), alike))

  pub agree : {weight same : ℕ} → weight ≡ e.weight → same ≡ g.weight → target ≡ other → eqb weight same ≡ alike e g
  agree w s q = ap₂ eqb w s ∙ sym (rw (eq-eqb e.target g.target (sym t ∙ q ∙ o), alike))

-- An edge where one like it came before, and the first of its kind.
module _ (a i : ℕ) (edges : List Edge) (d : ℕ) (e : Edge) where
  came : is_among e (take d edges) ≡ true → dot_edge a i edges d e ≡ []
  came h = rw (h, dot_edge)

  first : is_among e (take d edges) ≡ false → dot_edge a i edges d e ≡ dot_arrow a i d e (flat (also_text e) (suc d) (drop (suc d) edges))
  first h = rw (h, dot_edge)

-- The first edges that stand one behind the other, and those behind them.
edges_front : (f : List ℕ) (at count d : ℕ) → d ≤ count → take d (edges_in f at count) ≡ edges_in f at d
edges_front f at count zero l = refl
edges_front f at zero (suc d) l = absurd (omega arith)
edges_front f at (suc count) (suc d) l = ap (λ (es : List Edge). edge_in f at ∷ es) (edges_front f (at + edge_bytes) count d (omega arith))

edges_behind : (f : List ℕ) (at count d o rest : ℕ) → count ≡ d + rest → o ≡ at + edge_bytes * d → drop d (edges_in f at count) ≡ edges_in f o rest
edges_behind f at count zero o rest l e =
    let start : at ≡ o = omega arith in
    let all : count ≡ rest = omega arith in
    ap₂ (edges_in f) start all
edges_behind f at zero (suc d) o rest l e = absurd (omega arith)
edges_behind f at (suc count) (suc d) o rest l e = edges_behind f (at + edge_bytes) count d o rest (omega arith) (omega arith)

either : {x y : Bool} (t : Bool) → x ≡ y → (t || x) ≡ elim t [ true ↦ true | false ↦ y ]
either true e = refl
either false e = e

-- the node at an offset of the file f, with `count` edges
module _ (f : List ℕ) (node : ℕ) where
  -- One like e among the edges from the value j on, so many; and among the first.
  among_from : (e : Edge) (j o count : ℕ) → o ≡ node + (1 + edge_bytes * j) → list_any (λ j. alike e (edge_for f node j)) (range_with_len j count) ≡ is_among e (edges_in f o count)
  among_from e j o zero h = refl
  among_from e j o (suc count) h = rw h (either (alike e (edge_for f node j)) (among_from e (j + 1) (node + (1 + edge_bytes * j) + edge_bytes) count (omega arith)))

  pub among_first : (e : Edge) (d : ℕ) → list_any (λ j. alike e (edge_for f node j)) (range_with_len 0 d) ≡ is_among e (edges_in f (node + 1) d)
  among_first e d = among_from e 0 (node + 1) d (omega arith)

  -- The edge for the value d, of `count`.
  module _ (a i : ℕ) {count d : ℕ} (l : d < count) where
    abbrev edges : List Edge
    edges = edges_in f (node + 1) count

    abbrev edge : Edge
    edge = edge_for f node d

    -- One like it came before.
    pub edge_came : {before : Bool} → before ≡ is_among edge (edges_in f (node + 1) d) → before ≡ true → [] ≡ dot_edge a i edges d edge
    edge_came h t = sym (came a i edges d edge (ap (is_among edge) (edges_front f (node + 1) count d (omega arith)) ∙ sym h ∙ t))

    -- It is the first.
    pub edge_first : {before : Bool} → before ≡ is_among edge (edges_in f (node + 1) d) → before ≡ false
        → dot_arrow a i d edge (row_from (λ j. also_text edge j (edge_for f node j)) (d + 1) (count - (d + 1))) ≡ dot_edge a i edges d edge
    edge_first h t =
        let next : suc d ≡ d + 1 = omega arith in
        sym (first a i edges d edge (ap (is_among edge) (edges_front f (node + 1) count d (omega arith)) ∙ sym h ∙ t)
        ∙ ap (dot_arrow a i d edge)
        (ap (flat (also_text edge) (suc d)) (edges_behind f (node + 1) count (suc d) (node + (1 + edge_bytes * suc d)) (count - (d + 1)) (omega arith) (omega arith))
        ∙ edges_row f (also_text edge) node (node + (1 + edge_bytes * suc d)) (suc d) (count - (d + 1)) refl
        ∙ ap (λ (k : ℕ). row_from (λ j. also_text edge j (edge_for f node j)) k (count - (d + 1))) next))

-- A value whose edge is like e, and one whose edge is not.
module _ (e g : Edge) (d : ℕ) where
  pub also : {same : Bool} → same ≡ alike e g → same ≡ true → bytes "," ++ decimal d ≡ also_text e d g
  also h t = sym (rw (← h, t, also_text))

  pub also_not : {same : Bool} → same ≡ alike e g → same ≡ false → [] ≡ also_text e d g
  also_not h t = sym (rw (← h, t, also_text))

-- All edges of the node at an offset.
pub arrows_text : (f sizes : List ℕ) (a i node : ℕ) {v count : ℕ} → v ≡ get_or f node 0 → count ≡ get_or sizes v 0
    → row_from (λ d. dot_edge a i (edges_in f (node + 1) count) d (edge_for f node d)) 0 count ≡ flat (dot_edge a i (node_in f sizes node).edges) 0 (node_in f sizes node).edges
arrows_text f sizes a i node {count = count} h g =
    edges_text f sizes (dot_edge a i (edges_in f (node + 1) count)) node h g
    ∙ ap (λ (k : ℕ). flat (dot_edge a i (edges_in f (node + 1) k)) 0 (node_in f sizes node).edges) (g ∙ ap (λ (v : ℕ). get_or sizes v 0) h)

-- ---- nodes

-- the file f
module _ (f sizes offsets : List ℕ) (a : ℕ) {m count : ℕ} (e : m ≡ count) where
  -- The nodes at these offsets.
  pub vertices_text : row_from (λ j. dot_node a (1 + j) (node_for f sizes offsets j)) 0 m ≡ flat (dot_node a) 1 (nodes_in f sizes offsets 0 count)
  vertices_text = sym (nodes_row f (dot_node a) sizes offsets 1 0 m (omega arith)) ∙ ap (λ (k : ℕ). flat (dot_node a) 1 (nodes_in f sizes offsets 0 k)) e

  -- The terminal comes after them.
  pub terminal_as : {before now : Writer} (label : List ℕ) → Appends (label ++ node_name a (1 + m)) before now → Appends (label ++ node_name a (suc (length (nodes_in f sizes offsets 0 count)))) before now
  terminal_as label v = let same : 1 + m ≡ suc (length (nodes_in f sizes offsets 0 count)) = omega (arith, nodes_long f sizes offsets 0 count) in labelled_as label (ap (node_name a) same) v

-- ---- drawings

-- Any row of diagrams.
pub drawing_text : {row : List ℕ} (a : ℕ) (xs : List Action) → row ≡ flat dot_action a xs → bytes "digraph costs {\n" ++ (row ++ bytes "}\n") ≡ dot_text a xs
unfolding dot_text
drawing_text a xs e = ap (λ (r : List ℕ). bytes "digraph costs {\n" ++ (r ++ bytes "}\n")) e

-- A row of one.
pub row_one : (text : ℕ → List ℕ) (a : ℕ) → row_from text a (a + 1 - a) ≡ text a ++ []
row_one text a = let e : a + 1 - a ≡ 1 = omega arith in ap (row_from text a) e

-- ---- names

-- No two nodes have the same name.
pub name_same : (a i b j : ℕ) → node_name a i ≡ node_name b j → (a ≡ b) × (i ≡ j)
name_same a i b j e =
    let (action, rest) = decimal_then 110 (omega arith) a b (decimal i) (decimal j) (ap (drop 1) e) in
    (action, decimal_same i j rest)
