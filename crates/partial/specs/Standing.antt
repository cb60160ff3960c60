-- The standing bits of a map, one after the other.
use Rattle.std.specs.Prelude.{◌≡◌, ℕ, ◌-◌, ◌≤◌, Option, Some, None, bit_and}
use Rattle.facts.specs.Bits.{Lowest}

-- of the bits that stand in m, a map of 64 bits, the lowest is taken, if there is one, and the others are left
abbrev pub Takes : ℕ → Option ℕ → ℕ → Type 0
Takes m (Some z) left = (a : ℕ) × Lowest m z a × (left ≡ bit_and m (m - 1)) × (z ≤ 64)
Takes m None left = (m ≡ 0) × (left ≡ m)
