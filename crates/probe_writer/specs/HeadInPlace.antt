-- The head of the probe file of a task, from the bytes of an accepted task file with n variables.
use Rattle.std.specs.Prelude.{ℕ, zero, suc, ◌+◌, ◌*◌, List, [], ◌∷◌, ◌++◌, get_or, take, drop, replicate}
use Rattle.facts.specs.Partial.{Partial, partial_at, write_partial}
use Rattle.taskfile.specs.WalkInPlace.{node_count}
use Rattle.compilation.specs.Extend.{clear}

module _ (f : List ℕ) where
  -- the number of values of the markers of `count` actions from number a on, by the row of the index
  abbrev pub markers_in : List ℕ → ℕ → ℕ → List ℕ
  markers_in row a zero = []
  markers_in row a (suc count) = (node_count f (get_or row a 0) + 2) ∷ markers_in row (suc a) count

  -- the number of variables and their domain sizes
  abbrev pub sizes_in : ℕ → ℕ → List ℕ → List ℕ
  sizes_in n actions row = (n + suc actions) ∷ (take n (drop 1 f) ++ (2 ∷ markers_in row 0 actions))

  -- the initial values
  abbrev pub init_in : ℕ → ℕ → List ℕ
  init_in n actions = take n (drop (1 + n) f) ++ replicate (suc actions) 0

  -- the goal
  abbrev pub goal_in : ℕ → ℕ → Partial
  goal_in n actions = clear (partial_at f (1 + 2 * n)) n (suc actions)

  -- all of it
  abbrev pub head_in : ℕ → ℕ → List ℕ → List ℕ
  head_in n actions row = sizes_in n actions row ++ (init_in n actions ++ write_partial (goal_in n actions))
