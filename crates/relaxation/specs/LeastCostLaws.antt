-- The least cost of an action by the old numbers, over all valuations, is what one pass over its diagram finds, where each variable has a value
-- with the number 0.
use Rattle.std.specs.Prelude.{◌≡◌}
use Prim.Native.Nat.{ℕ, zero, suc, ◌+◌, ◌<◌}
use native.Mathlib.Omega.{arith}
use Rattle.facts.specs.Lists.{up_from, All}
use Rattle.estimate.specs.Number.{Number, exact, capped, sum, lesser}
use Rattle.estimate.specs.NumberLaws.{sum_comm, sum_assoc, sum_capped, sum_lesser, lesser_assoc}
use Rattle.relaxation.specs.Least.{MinPlus}

-- ---- the numbers of the estimate as a min-plus algebra

pub numbers : MinPlus sum lesser capped
numbers = record { sum_comm = sum_comm; sum_assoc = sum_assoc; lesser_assoc = lesser_assoc; sum_lesser = sum_lesser; of_sum = sum_capped }

-- all values of a variable are below their count
pub up_from_below : (k n most : ℕ) → most ≡ k + n → All (λ d. d < most) (up_from k n)
up_from_below k zero most e = tt
up_from_below k (suc n) most e = (omega arith, up_from_below (suc k) n most (omega arith))

-- ---- the law

-- a value of variable v, which has `size` values, whose number is 0
pub record Grounded (of : ℕ → ℕ → Number) (size v : ℕ) : Type 0 where
  pub value : ℕ
  pub inside : value < size
  pub is_zero : of v value ≡ exact 0
