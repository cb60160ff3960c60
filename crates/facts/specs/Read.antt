-- Answers: a value, or a refusal's number and place and nothing else. In a `do` block the first refusal is the answer, so the order of the
-- lines is the order of the refusals.
use Rattle.std.specs.Prelude.{ℕ, Bool, true, false}

pub data Read (X : Type 0) : Type 0 where
  accepted : X → Read X
  -- number and place
  refused : ℕ → ℕ → Read X

-- `x ← m`, and then what k makes of x
abbrev pub ◌>>=◌ : {X Y : Type 0} → Read X → (X → Read Y) → Read Y
◌>>=◌ (accepted x) k = k x
◌>>=◌ (refused n p) k = refused n p

-- refusal n at the place p unless the test is passed
abbrev pub check : Bool → ℕ → ℕ → Read (Unit {0})
check true n p = accepted tt
check false n p = refused n p

-- the same answer with something made of the value
abbrev pub with_value : {X Y : Type 0} → (X → Y) → Read X → Read Y
with_value f (accepted x) = accepted (f x)
with_value f (refused n p) = refused n p
