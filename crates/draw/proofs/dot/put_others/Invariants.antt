use Prim.Native.Nat.{ℕ, ◌+◌, ◌-◌}
use mathlib.Core.List.{List}
use Rattle.words.specs.Dot.{also_text}
use Rattle.words.specs.Rows.{row_from, edge_for}
use Rattle.words.specs.RowLaws.{Row}
use Rattle.draw.proofs.dot.put_others.Given as goal

-- the text of a value, where the edge of another is the one that it may be like
abbrev pub text : List ℕ → ℕ → ℕ → ℕ → List ℕ
text file node d j = also_text (edge_for file node d) j (edge_for file node j)

abbrev pub invariant-loop-j : goal.invariant-loop-j
invariant-loop-j l = Row (text l.file l.node l.d) (row_from (text l.file l.node l.d) (l.d + 1) (l.count - (l.d + 1))) l.initial.out l.out l.j l.count
