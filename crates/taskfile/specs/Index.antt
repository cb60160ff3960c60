-- What the code's index of a task file is.
use Rattle.std.specs.Prelude.{◌≡◌, ℕ, ◌≤◌, List, leb, length}
use Rattle.facts.specs.Read.{Read, accepted, check, ◌>>=◌}
use Rattle.taskfile.specs.Row.{row_long}
use Rattle.taskfile.specs.Blank.{file_of}
use Rattle.taskfile.specs.InPlace.{Fronts, task_at, Located}

-- the row has the index of the accepted file whose task is in these bytes, with so many variables and actions
pub record Ready (f : List ℕ) (variables actions : ℕ) (row : List ℕ) : Type 0 where
  pub some_byte : 1 ≤ length f
  pub counts : task_at (file_of f) ≡ accepted (variables, actions)
  pub located : Located f row
  pub fronts : Fronts f actions row
  pub long : row_long ≤ length row

-- how many variables and actions a file has, where its index is noted in a row of this length: 7 with the length needed for one that is too short
unfoldable pub index_answer : List ℕ → ℕ → Read (ℕ × ℕ)
index_answer f long = do
  _ ← check (leb row_long long) 7 row_long
  task_at f

-- where that is no refusal, the row has the index
pub record Noted (f : List ℕ) (answer : Read (ℕ × ℕ)) (row : List ℕ) : Type 0 where
  pub located : {n k : ℕ} → answer ≡ accepted (n, k) → Located f row
  pub fronts : {n k : ℕ} → answer ≡ accepted (n, k) → Fronts f k row
