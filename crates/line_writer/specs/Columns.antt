-- Lines as the code writes them: how long they are, which numbers fit their fields, and digits that end at a column.
use Rattle.std.specs.Prelude.{ℕ, zero, suc, ◌+◌, ◌-◌, ◌/◌, ◌%◌, ◌≤◌, List, [], ◌∷◌, ◌++◌, length, take, drop}
use Rattle.line_writer.specs.Lines.{Entry}

-- 24 characters and a newline
abbrev pub line_bytes : ℕ
line_bytes = 25

-- the largest sum that nine columns hold
abbrev pub most_sum : ℕ
most_sum = 999999999

-- the numbers of an action that fit their fields of 3, 2, 7 and 9 columns
pub record Narrow (e : Entry) : Type 0 where
  pub index : e.index ≤ 999
  pub action : e.action ≤ 99
  pub cost : e.cost ≤ 9999999
  pub sum : e.sum ≤ most_sum

-- so many numbers from k on, in two digits each
abbrev pub two_digits_from : ℕ → ℕ → List ℕ
two_digits_from k zero = []
two_digits_from k (suc count) = (48 + k / 10) ∷ (48 + k % 10) ∷ two_digits_from (suc k) count

-- those below 100
unfoldable pub two_digits : List ℕ
two_digits = two_digits_from 0 100

-- a line with bytes in the columns up to `end`, and else as it was
unfoldable pub ending_at : ℕ → List ℕ → List ℕ → List ℕ
ending_at end bytes line = take (end - length bytes) line ++ (bytes ++ drop end line)
