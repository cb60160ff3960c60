-- Partial states: some variables with a value each. Document 01, "The task file", calls them part states.
use Rattle.std.specs.Prelude.{◌≡◌, ℕ, zero, suc, ◌+◌, ◌/◌, ◌%◌, ◌^◌, ◌<◌, Bool, true, false, ◌&&◌, List, [], ◌∷◌, ◌++◌, eqb, leb, length, take, drop}
use Rattle.std.specs.Int.Count.{ones}
use Rattle.facts.specs.Bytes.{number_at, bytes_of}

-- bit v of `map` says that variable v has a value here; `values` has one for each standing bit, the lowest variable's first
pub record Partial : Type 0 where
  pub map : ℕ
  pub values : List ℕ

-- Variable 0 by its bit: whether its value x agrees, its value afterwards, and the values that are left for the other variables.
abbrev pub agrees : ℕ → List ℕ → ℕ → Bool
agrees zero values x = true
agrees (suc b) [] x = false
agrees (suc b) (v ∷ values) x = eqb v x

abbrev pub after : ℕ → List ℕ → ℕ → ℕ
after zero values x = x
after (suc b) [] x = x
after (suc b) (v ∷ values) x = v

abbrev pub rest : ℕ → List ℕ → List ℕ
rest zero values = values
rest (suc b) [] = []
rest (suc b) (v ∷ values) = values

-- the facts of the variables from 1 on, each variable's number one less
abbrev pub above : Partial → Partial
above p = record { map = p.map / 2; values = rest (p.map % 2) p.values }

-- the facts of p hold in the state s, which is one value per variable
abbrev pub holds : Partial → List ℕ → Bool
holds p [] = true
holds p (x ∷ s) = agrees (p.map % 2) p.values x && holds (above p) s

-- the state s with the facts of p set
abbrev pub apply : Partial → List ℕ → List ℕ
apply p [] = []
apply p (x ∷ s) = after (p.map % 2) p.values x ∷ apply (above p) s

-- no facts
abbrev pub empty : Partial
empty = record { map = 0; values = [] }

-- the bytes of p: the map, then the values
unfoldable pub write_partial : Partial → List ℕ
write_partial p = bytes_of 8 p.map ++ p.values

-- the length of p in bytes: "The count of standing bits is the count of value bytes."
abbrev pub partial_bytes : Partial → ℕ
partial_bytes p = 8 + ones p.map

-- How far past the map's first byte the value of a variable lies whose bit stands in the map: behind the map's 8 bytes and the values of
-- the lower standing bits.
unfoldable pub value_place : ℕ → ℕ → ℕ
value_place map v = 8 + ones (map % 2 ^ v)

-- the partial state of a map whose values begin at an offset of the file f
unfoldable pub standing_at : List ℕ → ℕ → ℕ → Partial
standing_at f map at = record { map = map; values = take (ones map) (drop at f) }

-- the partial state whose map begins at an offset of the file f, as its bytes stand; no facts where the file ends inside the map
unfoldable pub partial_at : List ℕ → ℕ → Partial
partial_at f at = elim (leb (at + 8) (length f)) [ true ↦ standing_at f (number_at 8 f at) (at + 8) | false ↦ empty ]

-- past the partial state at an offset
unfoldable pub past_partial : List ℕ → ℕ → ℕ
past_partial f at = at + partial_bytes (partial_at f at)

-- two offsets of the file f at which the same stands: they are equal, or both lie past its end
pub data Alike (f : List ℕ) (x y : ℕ) : Type 0 where
  equal : x ≡ y → Alike f x y
  beyond : length f < x → length f < y → Alike f x y
