use Prim.Native.Nat.{ℕ, ◌+◌}
use mathlib.Core.List.{List}
use Rattle.taskfile.specs.PartsInPlace.{edges_in}
use Rattle.words.specs.Dot.{dot_edge}
use Rattle.words.specs.Rows.{row_from, edge_for}
use Rattle.words.specs.RowLaws.{Row}
use Rattle.draw.proofs.dot.put_arrows.Given as goal

-- the text of the edge for a value
abbrev pub text : List ℕ → ℕ → ℕ → ℕ → ℕ → ℕ → List ℕ
text file node count a i d = dot_edge a i (edges_in file (node + 1) count) d (edge_for file node d)

abbrev pub invariant-loop-d : goal.invariant-loop-d
invariant-loop-d l = Row (text l.file l.node l.count l.a l.i) (row_from (text l.file l.node l.count l.a l.i) 0 l.count) l.initial.out l.out l.d l.count
