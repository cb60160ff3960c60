-- The blank task in place: the bytes in which code finds it, as an empty file has none.
use Rattle.std.specs.Prelude.{ℕ, Bool, true, false, ◌&&◌, List, [], ◌∷◌, eqb}

-- the head of the blank task as it would stand in a file: one variable, its size, its value, and the goal's map
abbrev pub blank_head : List ℕ
blank_head = 1 ∷ 2 ∷ 0 ∷ 0 ∷ 0 ∷ 0 ∷ 0 ∷ 0 ∷ 0 ∷ 0 ∷ 0 ∷ []

-- a file, or other bytes in place of an empty one
abbrev pub or_else : List ℕ → List ℕ → List ℕ
or_else [] bytes = bytes
or_else (byte ∷ rest) bytes = byte ∷ rest

-- whether two lists are the same
abbrev pub same_bytes : List ℕ → List ℕ → Bool
same_bytes [] [] = true
same_bytes [] (y ∷ ys) = false
same_bytes (x ∷ xs) [] = false
same_bytes (x ∷ xs) (y ∷ ys) = eqb x y && same_bytes xs ys

-- the file whose task code finds in these bytes: the empty one for the head of the blank task, else the bytes
unfoldable pub file_of : List ℕ → List ℕ
file_of bytes = elim (same_bytes bytes blank_head) [ true ↦ [] | false ↦ bytes ]
