-- Sums of ranks that are not cut off at over's: a rank far above all that they come to stands for never.
use Rattle.std.specs.Prelude.{◌≡◌, true, false, ℕ, ◌+◌, ◌*◌, ◌≤◌, ◌<◌, min, List, leb, length, get_or}
use Rattle.estimate.specs.Number.{over, rank}
use Rattle.estimate.specs.Facts.{most_variables, most_values}
use Rattle.taskfile.specs.TaskFile.{edge_bytes}

-- it stands for never
abbrev pub far : ℕ
far = 1099511627776

-- the rank that a sum comes to
unfoldable pub settled_rank : ℕ → ℕ
settled_rank n = elim (leb far n) [ true ↦ far | false ↦ min n (rank over) ]

-- a rank that is not between over's and the one for never
pub data Settled (n : ℕ) : Type 0 where
  low : n ≤ rank over → Settled n
  high : n ≡ far → Settled n

-- all entries of a table are such ranks
pub record Apart (table : List ℕ) : Type 0 where
  pub at : (t : ℕ) → Settled (get_or table t 0)

-- the edges of a node, one for each of `size` values of its variable v, lie inside the file, and so many ranks have room for these values
pub record EdgesInside (f : List ℕ) (node v size count : ℕ) : Type 0 where
  pub edges : node + (1 + edge_bytes * size) ≤ length f
  pub variable : v < most_variables
  pub values : size ≤ most_values
  pub room : v * most_values + size ≤ count
