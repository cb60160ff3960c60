use Prim.Native.Nat.{ℕ}
use mathlib.Core.List.{List}
use Rattle.words.specs.Show.{edge_text}
use Rattle.words.specs.Rows.{row_from, edge_for}
use Rattle.words.specs.RowLaws.{Row}
use Rattle.describe.proofs.task.put_edges.Given as goal

-- the text of the edge for a value
abbrev pub text : List ℕ → ℕ → ℕ → ℕ → List ℕ
text file node m d = edge_text m d (edge_for file node d)

abbrev pub invariant-loop-d : goal.invariant-loop-d
invariant-loop-d l = Row (text l.file l.node l.m) (row_from (text l.file l.node l.m) 0 l.count) l.initial.out l.out l.d l.count
