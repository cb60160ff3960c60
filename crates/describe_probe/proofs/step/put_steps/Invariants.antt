use Prim.Native.Nat.{ℕ}
use mathlib.Core.List.{List}
use lib.ListN.{length, get_or}
use Rattle.probefile.specs.InPlace.{step_at}
use Rattle.words.specs.Rows.{row_from}
use Rattle.words.specs.RowLaws.{Row}
use Rattle.describe_probe.specs.Show.{step_text}
use Rattle.describe_probe.proofs.step.put_steps.Given as goal

-- the text of a step
abbrev pub text : List ℕ → List ℕ → List ℕ → ℕ → List ℕ
text file sizes offsets k = step_text (length sizes) k (step_at file (get_or offsets k 0))

abbrev pub invariant-loop-k : goal.invariant-loop-k
invariant-loop-k l = Row (text l.file l.sizes l.offsets) (row_from (text l.file l.sizes l.offsets) 0 (length l.offsets)) l.initial.out l.out l.k (length l.offsets)
