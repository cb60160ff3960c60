-- Laws of rows of texts.
use Rattle.std.specs.Prelude.{ℕ, zero, suc, ◌+◌, ◌*◌, ◌-◌, ◌≤◌, ◌<◌, min, ◌≡◌, refl, List, [], ◌∷◌, ◌++◌, length, get_or, take, drop}
use Rattle.std.proofs.Common.{sym, ap, ap₂, ◌∙◌, arith, add-one}
use Rattle.taskfile.specs.Task.{Edge, Node, Action}
use Rattle.taskfile.specs.TaskFile.{edge_bytes}
use Rattle.taskfile.specs.Row.{own_from}
use Rattle.taskfile.specs.PartsInPlace.{edge_in, edges_in, node_in, nodes_in, action_in, actions_in}
use Rattle.taskfile.specs.MoveInPlaceLaws.{own_nodes}
use Rattle.compilation.specs.Compile.{flat}
use Rattle.text.specs.declared.append.Writer.{Writer}
use Rattle.text.specs.Writer.{Appends}
use Rattle.text.specs.WriterLaws.{appends_as, Adding, adding_start, adding_more, adding_end}
use Rattle.words.specs.Rows.{row_from, edge_for, node_for, action_for}

-- The same text in other words, after a label.
pub labelled_as : {xs ys : List ℕ} {before now : Writer} (label : List ℕ) → xs ≡ ys → Appends (label ++ xs) before now → Appends (label ++ ys) before now
labelled_as label e v = appends_as (ap (λ (text : List ℕ). label ++ text) e) v

-- ---- a row that is written one text after the other

-- the texts of the numbers before i are written, those from i on, up to `end`, are left
pub record Row (text : ℕ → List ℕ) (whole : List ℕ) (before now : Writer) (i end : ℕ) : Type 0 where
  pub adding : Adding whole (row_from text i (end - i)) before now

-- At first all are left.
pub row_start : (text : ℕ → List ℕ) (first end count : ℕ) (out : Writer) → count ≡ end - first → Row text (row_from text first count) out out first end
row_start text first end count out e = record { adding = rw e (adding_start (row_from text first (end - first)) out) }

module _ {text : ℕ → List ℕ} {whole : List ℕ} {before now : Writer} {i end : ℕ} (g : Row text whole before now i end) where
  -- Then the text of i is written.
  pub row_more : {last : Writer} → i < end → Appends (text i) now last → Row text whole before last (i + 1) end
  row_more l v = record {
    adding = adding_more (text i) (row_from text (i + 1) (end - (i + 1))) g.adding (let e : end - i ≡ suc (end - (i + 1)) = omega arith in rw (e, add-one i)) v;
  }

  -- At last none is left.
  pub row_end : end ≤ i → Appends whole before now
  row_end l = adding_end g.adding (let e : end - i ≡ 0 = omega arith in rw e)

-- ---- rows of parts in place

module _ (f : List ℕ) where
  -- Edges one behind the other.
  pub edges_row : (text : ℕ → Edge → List ℕ) (node at d count : ℕ) → at ≡ node + (1 + edge_bytes * d) → flat text d (edges_in f at count) ≡ row_from (λ d. text d (edge_for f node d)) d count
  edges_row text node at d zero e = refl
  edges_row text node at d (suc count) e =
      ap₂ (λ (o : ℕ) (rest : List ℕ). text d (edge_in f o) ++ rest) e (edges_row text node (at + edge_bytes) (suc d) count (omega arith))

  -- The edges of the node at an offset.
  pub edges_text : (sizes : List ℕ) (text : ℕ → Edge → List ℕ) (node : ℕ) {v count : ℕ} → v ≡ get_or f node 0 → count ≡ get_or sizes v 0
      → row_from (λ d. text d (edge_for f node d)) 0 count ≡ flat text 0 (node_in f sizes node).edges
  edges_text sizes text node {count = count} h g =
      sym (edges_row text node (node + 1) 0 count (omega arith)) ∙ ap (λ (k : ℕ). flat text 0 (edges_in f (node + 1) k)) (g ∙ ap (λ (v : ℕ). get_or sizes v 0) h)

  -- Nodes at these offsets.
  pub nodes_row : {X : Type 0} (text : ℕ → Node → List X) (sizes offsets : List ℕ) (i j count : ℕ) → i ≡ 1 + j
      → flat text i (nodes_in f sizes offsets j count) ≡ row_from (λ j. text (1 + j) (node_for f sizes offsets j)) j count
  nodes_row text sizes offsets i j zero e = refl
  nodes_row {X} text sizes offsets i j (suc count) e =
      ap₂ (λ (k : ℕ) (rest : List X). text k (node_for f sizes offsets j) ++ rest) e (nodes_row text sizes offsets (suc i) (suc j) count (omega arith))

  -- An action whose offset and own nodes are looked up in the row.
  pub action_as : (sizes row : List ℕ) (a : ℕ) {at k : ℕ} → at ≡ get_or row a 0 → k ≡ min (own_from row a) (length row) → action_in f sizes at (take (length row - k) (drop k row)) ≡ action_for f sizes row a
  action_as sizes row a h e = ap₂ (action_in f sizes) h (own_nodes row (own_from row a) e)

  -- Actions of these numbers.
  pub actions_row : {X : Type 0} (text : ℕ → Action → List X) (sizes row : List ℕ) (a count : ℕ) → flat text a (actions_in f sizes row a count) ≡ row_from (λ a. text a (action_for f sizes row a)) a count
  actions_row text sizes row a zero = refl
  actions_row {X} text sizes row a (suc count) = ap (λ (rest : List X). text a (action_for f sizes row a) ++ rest) (actions_row text sizes row (suc a) count)

-- The elements of a list.
pub list_row : (text : ℕ → ℕ → List ℕ) (xs all : List ℕ) (i : ℕ) → ((k j : ℕ) → k < length xs → j ≡ i + k → get_or xs k 0 ≡ get_or all j 0) → flat text i xs ≡ row_from (λ v. text v (get_or all v 0)) i (length xs)
list_row text [] all i h = refl
list_row text (x ∷ xs) all i h =
    ap₂ (λ (y : ℕ) (rest : List ℕ). text i y ++ rest) (h 0 i (omega arith) (omega arith)) (list_row text xs all (suc i) (λ k j l e. h (suc k) j (omega arith) (omega arith)))
