-- States handed in: one value for each variable. Document 01, "Running on a task", "Turned down".
use Rattle.std.specs.Prelude.{ℕ, suc, ◌<◌, Bool, List, [], ◌∷◌, ltb, eqb, length}
use Rattle.facts.specs.Read.{Read, accepted, check, ◌>>=◌}

-- one value for each variable, inside its domain
abbrev pub Inside : List ℕ → List ℕ → Type 0
Inside [] [] = Unit {0}
Inside [] (x ∷ s) = ⊥
Inside (d ∷ sizes) [] = ⊥
Inside (d ∷ sizes) (x ∷ s) = (x < d) × Inside sizes s

-- refusal n at the lowest variable whose two numbers, one of each list, do not pass the test; the first variable has the number v
abbrev pub check_each : ℕ → (ℕ → ℕ → Bool) → ℕ → List ℕ → List ℕ → Read (Unit {0})
check_each n good v [] s = accepted tt
check_each n good v (d ∷ sizes) [] = accepted tt
check_each n good v (d ∷ sizes) (x ∷ s) = do
  _ ← check (good d x) n v
  check_each n good (suc v) sizes s

-- 4 at the lowest variable whose value, or whatever stands for it, does not pass the test beside its domain size
abbrev pub check_values : (ℕ → ℕ → Bool) → ℕ → List ℕ → List ℕ → Read (Unit {0})
check_values good v sizes s = check_each 4 good v sizes s

-- 12 for the length, then 4 for the values
abbrev pub check_with : (ℕ → ℕ → Bool) → List ℕ → List ℕ → Read (Unit {0})
check_with good sizes s = do
  _ ← check (eqb (length s) (length sizes)) 12 0
  check_values good 0 sizes s

-- a state: each value is inside its domain
unfoldable pub check_state : List ℕ → List ℕ → Read (Unit {0})
check_state sizes s = check_with (λ d x. ltb x d) sizes s
