-- The value that a partial state has for a variable, by the same recursion as holding and applying (crate `facts`, specs/Partial.antt).
use Rattle.std.specs.Prelude.{ℕ, zero, suc, ◌+◌, ◌/◌, ◌%◌, ◌^◌, List, [], ◌∷◌, Option, None, Some}
use Rattle.facts.specs.Partial.{Partial, above}

-- the value of variable 0, by its bit and the values, if it has one
abbrev pub first_value : ℕ → List ℕ → Option ℕ
first_value zero values = None
first_value (suc b) [] = None
first_value (suc b) (d ∷ values) = Some d

-- the value that p has for variable v, if it has one
abbrev pub value_of : Partial → ℕ → Option ℕ
value_of p zero = first_value (p.map % 2) p.values
value_of p (suc v) = value_of (above p) v

-- bit v of a map: 1 where it stands, else 0
abbrev pub bit_of : ℕ → ℕ → ℕ
bit_of map v = map / 2 ^ v % 2

-- "the count of lower standing bits": of the bits of a map below bit v, each itself added
abbrev pub lower_standing : ℕ → ℕ → ℕ
lower_standing map zero = 0
lower_standing map (suc v) = lower_standing map v + bit_of map v
