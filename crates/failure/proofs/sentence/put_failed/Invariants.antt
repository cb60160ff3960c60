use Prim.Native.Nat.{ℕ, ◌+◌, ◌≤◌}
use mathlib.Core.List.{List}
use lib.ListN.{length, get_or}
use Rattle.facts.specs.Partial.{standing_at}
use Rattle.words.specs.WordLaws.{BitsLeft}
use Rattle.failure.specs.Failure.{failed_text, failures_text}
use Rattle.failure.proofs.sentence.put_failed.Given as goal

-- the text of a variable
abbrev pub text : List ℕ → ℕ → ℕ → List ℕ → List ℕ
text state v = failed_text (get_or state v 0) v

abbrev pub invariant-loop-v : goal.invariant-loop-v
invariant-loop-v l = (l.value ≤ l.place + l.v) × BitsLeft l.file (text l.state) (failures_text (standing_at l.file l.map l.place) l.state) l.initial.out l.out (length l.state) l.v l.rest l.value
