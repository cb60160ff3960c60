use Prim.Native.Nat.{ℕ, ◌-◌}
use mathlib.Core.List.{List}
use Rattle.words.specs.Dot.{dot_action}
use Rattle.words.specs.Rows.{row_from, action_for}
use Rattle.words.specs.RowLaws.{Row}
use Rattle.draw.proofs.dot.put_diagrams.Given as goal

-- the text of an action
abbrev pub text : List ℕ → List ℕ → List ℕ → ℕ → List ℕ
text file sizes row a = dot_action a (action_for file sizes row a)

abbrev pub invariant-loop-a : goal.invariant-loop-a
invariant-loop-a l = Row (text l.file l.sizes l.row) (row_from (text l.file l.sizes l.row) l.from (l.end - l.from)) l.initial.out l.out l.a l.end
