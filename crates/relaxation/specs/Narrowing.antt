-- The sets of a relaxed state narrowed to the values of a precondition: what code does before its pass over a diagram.
use Rattle.std.specs.Prelude.{◌≡◌, ℕ, suc, ◌*◌, ◌^◌, List, [], ◌∷◌, Option, None, Some}
use Rattle.facts.specs.Read.{accepted}
use Rattle.facts.specs.Partial.{Partial}
use Rattle.value.specs.Value.{value_of, bit_of}
use Rattle.relaxation.specs.RelaxedTask.{check_meets}

-- a set without all values but one, if there is one
abbrev pub kept_set : ℕ → Option ℕ → ℕ
kept_set set None = set
kept_set set (Some d) = bit_of set d * 2 ^ d

-- each set without all values but the precondition's; the first variable has the number v
abbrev pub narrowed_from : ℕ → Partial → List ℕ → List ℕ
narrowed_from v pre [] = []
narrowed_from v pre (set ∷ sets) = kept_set set (value_of pre v) ∷ narrowed_from (suc v) pre sets

abbrev pub narrowed : Partial → List ℕ → List ℕ
narrowed pre sets = narrowed_from 0 pre sets

-- A copy has the narrowed sets, if no set lacks a value of the precondition.
abbrev pub Narrows : Partial → List ℕ → List ℕ → Type 0
Narrows pre sets copy = check_meets pre sets ≡ accepted tt → copy ≡ narrowed pre sets
