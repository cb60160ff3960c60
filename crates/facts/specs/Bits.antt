-- The lowest standing bit of a map.
use Rattle.std.specs.Prelude.{◌≡◌, ℕ, ◌+◌, ◌*◌, ◌^◌, ◌≤◌, ◌<◌}

-- m has z zeros below its lowest standing bit, and the bits of `above` above it
pub record Lowest (m z above : ℕ) : Type 0 where
  pub bits : m ≡ (2 * above + 1) * 2 ^ z

-- z and `above` are these for a map of 64 bits; where no bit stands z is 64
pub record LowestBit (m z above : ℕ) : Type 0 where
  pub stands : 0 < m → Lowest m z above
  pub none : m ≡ 0 → (z ≡ 64) × (above ≡ 0)
  pub most : z ≤ 64
