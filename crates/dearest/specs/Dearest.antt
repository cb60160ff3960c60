-- The dearest state of an action, over all states of its task. Document 02, W11.
use Rattle.std.specs.Prelude.{◌≡◌, ◌⊎◌, ℕ, ◌≤◌, ◌<◌, List, [], ◌∷◌, map, eqb, None, Some}
use Rattle.facts.specs.Lists.{up_from, find}
use Rattle.facts.specs.State.{Inside}
use Rattle.facts.specs.Read.{Read, accepted, ◌>>=◌}
use Rattle.taskfile.specs.Task.{Action, cost}
use Rattle.taskfile.specs.TaskFile.{read_task, action_of}
use Rattle.relaxation.specs.Least.{states}
use Rattle.relaxation.specs.RelaxedInPlace.{greatest}

-- all states of a task with these domain sizes, in their order when read from variable 0
abbrev pub all_states : List ℕ → List (List ℕ)
all_states sizes = states (map (up_from 0) sizes)

-- "Give the greatest cost over all states": whether or not the action applies there.
unfoldable pub greatest_cost : List ℕ → Action → ℕ
greatest_cost sizes x = greatest (map (cost x) (all_states sizes))

-- ".. and the state that has it. Among several, the one smallest when read from variable 0 is given": the first that has it.
unfoldable pub dearest_state : List ℕ → Action → List ℕ
dearest_state sizes x = elim (find (λ s. eqb (cost x s) (greatest_cost sizes x)) (all_states sizes)) [ None ↦ [] | Some s ↦ s ]

-- The operation on action number a of a file, the state and its cost: 1 to 6 for the file, 11 for the number. Answer and buffer are those of every operation that answers a number and writes, `answer_in` and
-- `buffer_in`: 7 comes last, with the number of variables.
unfoldable pub dearest_of : List ℕ → ℕ → Read (List ℕ × ℕ)
dearest_of f a = do
  t ← read_task f
  x ← action_of t.actions a
  accepted (dearest_state t.sizes x, greatest_cost t.sizes x)

-- ---- what it promises

-- s is smaller than z when read from variable 0
abbrev pub Smaller : List ℕ → List ℕ → Type 0
Smaller [] z = ⊥
Smaller (x ∷ s) [] = ⊥
Smaller (x ∷ s) (y ∷ z) = (x < y) ⊎ ((x ≡ y) × Smaller s z)

-- What is said of a state and a cost that are given for an action of a task with these domain sizes.
pub record Dearest (sizes : List ℕ) (x : Action) (state : List ℕ) (most : ℕ) : Type 0 where
  pub inside : Inside sizes state
  -- "the state that has it"
  pub costs : cost x state ≡ most
  -- "No state of the task may cost more."
  pub none_more : (s : List ℕ) → Inside sizes s → cost x s ≤ most
  -- "Among several, the one smallest when read from variable 0": every smaller one costs less
  pub smallest : (s : List ℕ) → Inside sizes s → Smaller s state → cost x s < most
