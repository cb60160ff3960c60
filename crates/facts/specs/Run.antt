-- Running a list of numbers, on tasks and probe files alike. Document 01, "Running on a task", "Turned down".
use Rattle.std.specs.Prelude.{◌≡◌, ℕ, suc, ◌+◌, true, false, List, [], ◌∷◌, leb, ltb, length}
use Rattle.facts.specs.Read.{Read, accepted, refused, check, ◌>>=◌}
use Rattle.facts.specs.Partial.{Partial, holds, apply}

-- what an action or a step does in a state: the state after it and what it costs, or it does not apply
pub data Move : Type 0 where
  next : List ℕ → ℕ → Move
  blocked : Move

-- it applies where its precondition holds, and sets its effect
abbrev pub attempt : Partial → Partial → ℕ → List ℕ → Move
attempt pre eff cost s = elim (holds pre s) [ true ↦ next (apply eff s) cost | false ↦ blocked ]

-- a move's state and cost, or refusal 9 at the place i
abbrev pub moved : Move → ℕ → Read (List ℕ × ℕ)
moved (next s c) i = accepted (s, c)
moved blocked i = refused 9 i

-- The run of a list from the state s: the sum, or the first refusal. There are `count` actions or steps, and `move a s` is what number a
-- does in the state s. The list's first entry has the index i, and `sum` was paid before it. Lists may have any length.
unfoldable pub run_from : ℕ → (ℕ → List ℕ → Move) → Partial → ℕ → ℕ → List ℕ → List ℕ → Read ℕ
run_from count move goal i sum [] s = do
  _ ← check (holds goal s) 10 i
  accepted sum
run_from count move goal i sum (a ∷ list) s = do
  _ ← check (ltb a count) 11 i
  (s, c) ← moved (move a s) i
  run_from count move goal (suc i) (sum + c) list s

-- a list over its limit
unfoldable pub at_most : ℕ → List ℕ → Read (Unit {0})
at_most most list = check (leb (length list) most) 8 most

-- The list applies step by step from the state s, where `sum` was paid, and ends where the goal holds, with c paid: from an initial state
-- and 0 it is a plan with the sum c.
pub data Reaches (move : ℕ → List ℕ → Move) (goal : Partial) : ℕ → List ℕ → List ℕ → ℕ → Type 0 where
  ends : {sum : ℕ} {s : List ℕ} → holds goal s ≡ true → Reaches move goal sum [] s sum
  steps : {sum a paid c : ℕ} {list s s' : List ℕ} → move a s ≡ next s' paid → Reaches move goal (sum + paid) list s' c → Reaches move goal sum (a ∷ list) s c
