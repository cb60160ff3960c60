-- What the words for tasks and steps have in common: facts and partial states.
use Rattle.std.specs.Prelude.{ℕ, zero, suc, ◌%◌, List, [], ◌∷◌, ◌++◌}
use Rattle.facts.specs.Partial.{Partial, above}
use Rattle.text.specs.Text.{decimal}
use Rattle.text.specs.Append.{bytes}

-- a fact, variable and value
abbrev pub fact_text : ℕ → ℕ → List ℕ
fact_text v d = decimal v ++ (bytes "=" ++ decimal d)

-- the fact of variable v by its bit, after a space
abbrev pub bit_text : ℕ → ℕ → List ℕ → List ℕ
bit_text v zero values = []
bit_text v (suc b) [] = []
bit_text v (suc b) (d ∷ values) = bytes " " ++ fact_text v d

-- the texts of n variables from v on, each by its bit in a partial state and the values from its own on
abbrev pub bits_text : (ℕ → ℕ → List ℕ → List ℕ) → ℕ → ℕ → Partial → List ℕ
bits_text text zero v p = []
bits_text text (suc n) v p = text v (p.map % 2) p.values ++ bits_text text n (suc v) (above p)

-- the facts of n variables from v on
abbrev pub facts_text : ℕ → ℕ → Partial → List ℕ
facts_text n v p = bits_text bit_text n v p

-- the facts of a map, or that there are none
abbrev pub some_text : ℕ → List ℕ → List ℕ
some_text zero facts = bytes " none"
some_text (suc b) facts = facts

-- the facts of a partial state of n variables, the lowest variable's first
unfoldable pub partial_text : ℕ → Partial → List ℕ
partial_text n p = some_text p.map (facts_text n 0 p)
