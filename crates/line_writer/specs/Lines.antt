-- The lines of a plan's sheet, as text. Document 02, W12: "Each action of a source plan gets a line of exactly 24 characters and a newline. The fields are index from 0 (width 3), action (2), cost (7) and running
-- sum (9), right-aligned in decimal with one space between. The last line has `sum` in columns 1 to 3, the whole sum right-aligned to column 24, and a newline."
use Rattle.std.specs.Prelude.{ℕ, suc, ◌+◌, ◌-◌, List, [], ◌∷◌, ◌++◌, length, replicate}
use Rattle.text.specs.Text.{decimal}
use Rattle.text.specs.Append.{bytes}

-- so many spaces
abbrev pub spaces : ℕ → List ℕ
spaces n = replicate n 32

-- a number right-aligned in a field: spaces, and its digits
unfoldable pub field : ℕ → ℕ → List ℕ
field width n = spaces (width - length (decimal n)) ++ decimal n

-- an action of a plan: its index in the plan from 0, its number, what it costs, and the running sum, up to it and with it
pub record Entry : Type 0 where
  pub index : ℕ
  pub action : ℕ
  pub cost : ℕ
  pub sum : ℕ

-- its line: the fields with one space between, and a newline
unfoldable pub line_text : Entry → List ℕ
line_text e = field 3 e.index ++ (bytes " " ++ (field 2 e.action ++ (bytes " " ++ (field 7 e.cost ++ (bytes " " ++ (field 9 e.sum ++ bytes "\n"))))))

-- the last line: `sum` in columns 1 to 3, and the whole sum right-aligned to column 24
unfoldable pub last_text : ℕ → List ℕ
last_text sum = bytes "sum" ++ (field 21 sum ++ bytes "\n")

-- the lines of actions, one after the other
abbrev pub lines_text : List Entry → List ℕ
lines_text [] = []
lines_text (e ∷ es) = line_text e ++ lines_text es

-- actions with what they cost; the first has the index i, and `sum` was paid before it
abbrev pub entries_from : ℕ → ℕ → List ℕ → List ℕ → List Entry
entries_from i sum [] costs = []
entries_from i sum (a ∷ list) [] = []
entries_from i sum (a ∷ list) (c ∷ costs) = record { index = i; action = a; cost = c; sum = sum + c } ∷ entries_from (suc i) (sum + c) list costs
