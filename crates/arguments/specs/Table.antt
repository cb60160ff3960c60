-- Words by number: a table is a text of words, each of which a blank ends.
use Rattle.std.specs.Prelude.{ℕ, suc, Bool, true, false, List, [], ◌∷◌, ◌++◌, eqb}

-- whether two words are the same
abbrev pub same : List ℕ → List ℕ → Bool
same [] [] = true
same [] (y ∷ ys) = false
same (x ∷ xs) [] = false
same (x ∷ xs) (y ∷ ys) = elim (eqb x y) [ true ↦ same xs ys | false ↦ false ]

-- the words of a table, where `w` was read of the first
abbrev pub words_from : List ℕ → List ℕ → List (List ℕ)
words_from w [] = []
words_from w (b ∷ table) = elim (eqb b 32) [ true ↦ w ∷ words_from [] table | false ↦ words_from (w ++ (b ∷ [])) table ]

-- the number of a word among others, from 0 on; how many there are where it is none of them
abbrev pub number_among : List ℕ → List (List ℕ) → ℕ
number_among word [] = 0
number_among word (w ∷ ws) = elim (same w word) [ true ↦ 0 | false ↦ suc (number_among word ws) ]

unfoldable pub number_in : List ℕ → List ℕ → ℕ
number_in table word = number_among word (words_from [] table)
