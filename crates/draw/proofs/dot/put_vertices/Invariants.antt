use Prim.Native.Nat.{ℕ, ◌+◌}
use mathlib.Core.List.{List}
use Rattle.words.specs.Dot.{dot_node}
use Rattle.words.specs.Rows.{row_from, node_for}
use Rattle.words.specs.RowLaws.{Row}
use Rattle.draw.proofs.dot.put_vertices.Given as goal

-- the text of the node at an index
abbrev pub text : List ℕ → List ℕ → List ℕ → ℕ → ℕ → List ℕ
text file sizes nodes a j = dot_node a (1 + j) (node_for file sizes nodes j)

abbrev pub invariant-loop-j : goal.invariant-loop-j
invariant-loop-j l = Row (text l.file l.sizes l.nodes l.a) (row_from (text l.file l.sizes l.nodes l.a) 0 l.m) l.initial.out l.out l.j l.m
