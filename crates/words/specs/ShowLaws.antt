-- Laws of the parts of a task in words, from the bytes of a file.
use Rattle.std.specs.Prelude.{ℕ, ◌+◌, ◌≤◌, ◌<◌, ◌≡◌, List, ◌++◌, length}
use Rattle.std.proofs.Common.{sym, ap, ap₂, ◌∙◌, arith, le-leb}
use Rattle.std.proofs.lemmas.Bool.{lt-leb}
use Rattle.taskfile.specs.Task.{Edge}
use Rattle.taskfile.specs.PartsInPlace.{nodes_in}
use Rattle.taskfile.specs.PartsInPlaceLaws.{nodes_long}
use Rattle.compilation.specs.Compile.{flat}
use Rattle.text.specs.Text.{decimal}
use Rattle.text.specs.declared.append.Writer.{Writer}
use Rattle.text.specs.Append.{bytes}
use Rattle.text.specs.Writer.{Appends}
use Rattle.text.specs.WriterLaws.{appends_as}
use Rattle.words.specs.Show.{target_text, edge_text, node_text, cost_text}
use Rattle.words.specs.Rows.{row_from, node_for}
use Rattle.words.specs.RowLaws.{nodes_row}

-- An edge leads to a node, or to the terminal.
pub target_node : (m target : ℕ) → target ≤ m → bytes "node " ++ decimal target ≡ target_text m target
unfolding target_text
target_node m target l = rw (le-leb target m l, target_text)

pub target_end : (m target : ℕ) → m < target → bytes "the end" ≡ target_text m target
unfolding target_text
target_end m target l = rw (lt-leb target m l, target_text)

-- An edge by its parts.
pub edge_as : {before now : Writer} {target weight : ℕ} (m d : ℕ) (e : Edge) → target ≡ e.target → weight ≡ e.weight
    → Appends (edge_text m d (record { target = target; weight = weight })) before now → Appends (edge_text m d e) before now
edge_as m d e t w v = appends_as (ap₂ (λ (t w : ℕ). edge_text m d (record { target = t; weight = w })) t w) v

-- the file f
module _ (f sizes : List ℕ) where
  -- The nodes at these offsets.
  pub nodes_text : (offsets : List ℕ) (m : ℕ) → row_from (λ j. node_text m (1 + j) (node_for f sizes offsets j)) 0 m ≡ flat (node_text (length (nodes_in f sizes offsets 0 m))) 1 (nodes_in f sizes offsets 0 m)
  nodes_text offsets m =
      sym (nodes_row f (node_text m) sizes offsets 1 0 m (omega arith)) ∙ ap (λ (k : ℕ). flat (node_text k) 1 (nodes_in f sizes offsets 0 m)) (sym (nodes_long f sizes offsets 0 m))

  -- The target of the edge into node 1.
  pub first_target : (offsets : List ℕ) (m : ℕ) → target_text m 1 ≡ target_text (length (nodes_in f sizes offsets 0 m)) 1
  first_target offsets m = ap (λ (k : ℕ). target_text k 1) (sym (nodes_long f sizes offsets 0 m))

  -- The cost of an action by its parts.
  pub cost_as : {before now : Writer} {w m incoming count : ℕ} (offsets : List ℕ) → w ≡ incoming → m ≡ count
      → Appends (cost_text w (nodes_in f sizes offsets 0 m)) before now → Appends (cost_text incoming (nodes_in f sizes offsets 0 count)) before now
  cost_as offsets w m v = appends_as (ap₂ (λ (w m : ℕ). cost_text w (nodes_in f sizes offsets 0 m)) w m) v
