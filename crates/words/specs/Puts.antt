-- What a function of a writer writes.
use Rattle.std.specs.Prelude.{ℕ, ◌≤◌, List, length}
use Rattle.std.specs.Borrow.{MutBor}
use Rattle.text.specs.declared.append.Writer.{Writer}
use Rattle.text.specs.Append.{largest}
use Rattle.text.specs.Writer.{Appends}

-- Each of its calls writes the same text, wherever the writer stands. A buffer could hold the text.
pub record Puts (text : List ℕ) (post : MutBor Writer → Unit {0} → MutBor Writer → Type 0) : Type 0 where
  pub few : length text ≤ largest
  pub each : (before after : MutBor Writer) → post before tt after → Appends text before.now after.now
