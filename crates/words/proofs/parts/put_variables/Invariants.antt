use Prim.Native.Nat.{ℕ}
use mathlib.Core.List.{List}
use lib.ListN.{length, get_or}
use Rattle.words.specs.Show.{variable_text}
use Rattle.words.specs.Rows.{row_from}
use Rattle.words.specs.RowLaws.{Row}
use Rattle.words.proofs.parts.put_variables.Given as goal

-- the text of a variable
abbrev pub text : List ℕ → List ℕ → ℕ → List ℕ
text sizes init v = variable_text v (get_or sizes v 0) (get_or init v 0)

abbrev pub invariant-loop-v : goal.invariant-loop-v
invariant-loop-v l = Row (text l.sizes l.init) (row_from (text l.sizes l.init) 0 (length l.sizes)) l.initial.out l.out l.v (length l.sizes)
