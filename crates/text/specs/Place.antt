-- Places of a text: the line and the entry that an offset lies in. An entry is a run of bytes that are no blanks.
use Rattle.std.specs.Prelude.{ℕ, ◌+◌, Bool, true, false, not, ◌&&◌, List, [], ◌∷◌, eqb, take}
use Rattle.text.specs.Text.{blank}

-- 1 for true, and 0 for false
abbrev pub one_if : Bool → ℕ
one_if true = 1
one_if false = 0

-- how many bytes are newlines
abbrev pub newlines : List ℕ → ℕ
newlines [] = 0
newlines (b ∷ text) = one_if (eqb b 10) + newlines text

-- how many entries end among bytes: blanks that follow something else; `inside` says whether an entry goes on where they begin
abbrev pub entries_end : Bool → List ℕ → ℕ
entries_end inside [] = 0
entries_end inside (b ∷ text) = one_if (inside && blank b) + entries_end (not (blank b)) text

-- whether an entry goes on where they end
abbrev pub goes_on : Bool → List ℕ → Bool
goes_on inside [] = inside
goes_on inside (b ∷ text) = goes_on (not (blank b)) text

-- the line of the byte at p, counted from 1
unfoldable pub line_at : ℕ → List ℕ → ℕ
line_at p text = 1 + newlines (take p text)

-- the entry of the byte at p, counted from 0: as many as end before it
unfoldable pub entry_at : ℕ → List ℕ → ℕ
entry_at p text = entries_end false (take p text)

-- whether that entry began before p
unfoldable pub begun_at : ℕ → List ℕ → Bool
begun_at p text = goes_on false (take p text)
