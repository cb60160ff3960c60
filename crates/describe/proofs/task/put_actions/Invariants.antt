use Prim.Native.Nat.{ℕ}
use mathlib.Core.List.{List}
use lib.ListN.{length}
use Rattle.words.specs.Show.{action_text}
use Rattle.words.specs.Rows.{row_from, action_for}
use Rattle.words.specs.RowLaws.{Row}
use Rattle.describe.proofs.task.put_actions.Given as goal

-- the text of an action
abbrev pub text : List ℕ → List ℕ → List ℕ → ℕ → List ℕ
text file sizes row a = action_text (length sizes) a (action_for file sizes row a)

abbrev pub invariant-loop-a : goal.invariant-loop-a
invariant-loop-a l = Row (text l.file l.sizes l.row) (row_from (text l.file l.sizes l.row) 0 l.count) l.initial.out l.out l.a l.count
