-- Partial states of document 01's task P and of the file written from it, computed.
use Rattle.std.specs.Prelude.{◌≡◌, refl, ℕ, List, [], ◌∷◌, ◌++◌, map, Option, None, Some}
use Rattle.std.specs.Int.Count.{ones}
use Rattle.facts.specs.Bytes.{number_at}
use Rattle.facts.specs.Lists.{up_from}
use Rattle.facts.specs.Partial.{value_place, standing_at, partial_at}
use Rattle.value.specs.Value.{value_of, lower_standing}

-- seven zero bytes
abbrev 0* : List ℕ
0* = 0 ∷ 0 ∷ 0 ∷ 0 ∷ 0 ∷ 0 ∷ 0 ∷ []

-- the values of the first n variables, of the partial state at an offset of the file f
abbrev values_at : List ℕ → ℕ → ℕ → List (Option ℕ)
values_at f at n = map (value_of (partial_at f at)) (up_from 0 n)

in_place : Unit {0}
unfolding number_at standing_at partial_at ones
in_place = tt

-- P up to the end of its goal, which has variable 0 at 1
goal : values_at (1 ∷ 2 ∷ 0 ∷ 1 ∷ 0* ++ 1 ∷ []) 3 2 ≡ Some 1 ∷ None ∷ []
unfolding in_place
goal = refl

-- what the edge for value 0 needs in the written file: variable 0 at 0 and the marker, variable 2, at 1
edge : values_at (5 ∷ 0* ++ 0 ∷ 1 ∷ []) 0 4 ≡ Some 0 ∷ None ∷ Some 1 ∷ None ∷ []
unfolding in_place
edge = refl

-- its value bytes lie 8 and 9 past the map's first byte
edge_places : map (value_place 5) (up_from 0 4) ≡ 8 ∷ 9 ∷ 9 ∷ 10 ∷ []
unfolding value_place ones
edge_places = refl

edge_counts : map (lower_standing 5) (up_from 0 4) ≡ 0 ∷ 1 ∷ 1 ∷ 2 ∷ []
edge_counts = refl

-- where the file ends before a value there is none, and where it ends inside the map there are none at all
edge_cut : values_at (5 ∷ 0* ++ 0 ∷ []) 0 4 ≡ Some 0 ∷ None ∷ None ∷ None ∷ []
unfolding in_place
edge_cut = refl

map_cut : values_at (5 ∷ 0*) 1 4 ≡ None ∷ None ∷ None ∷ None ∷ []
unfolding in_place
map_cut = refl
