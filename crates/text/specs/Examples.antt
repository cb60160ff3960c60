-- Texts and their numbers, computed.
use Rattle.std.specs.Prelude.{◌≡◌, refl, ℕ, Bool, true, false, List, [], ◌∷◌, map}
use Rattle.facts.specs.Write.{over}
use Rattle.text.specs.Text.{parsed, stray, large, blank, digit, numbers_of, buffer_of, decimal, list_text}
use Rattle.text.specs.Append.{bytes}
use Rattle.text.specs.Place.{line_at, entry_at, begun_at}

-- nothing, and blanks alone
nothing : numbers_of 255 [] ≡ parsed []
unfolding numbers_of blank digit
nothing = refl

blanks : numbers_of 255 (32 ∷ 9 ∷ 10 ∷ 13 ∷ []) ≡ parsed []
unfolding numbers_of blank digit
blanks = refl

-- "007 255"
zeros_lead : numbers_of 255 (48 ∷ 48 ∷ 55 ∷ 32 ∷ 50 ∷ 53 ∷ 53 ∷ []) ≡ parsed (7 ∷ 255 ∷ [])
unfolding numbers_of blank digit
zeros_lead = refl

-- " 256x": large before what follows
above : numbers_of 255 (32 ∷ 50 ∷ 53 ∷ 54 ∷ 120 ∷ []) ≡ large 1
unfolding numbers_of blank digit
above = refl

-- "1 2x 999": stray where it stands
astray : numbers_of 255 (49 ∷ 32 ∷ 50 ∷ 120 ∷ 32 ∷ 57 ∷ 57 ∷ 57 ∷ []) ≡ stray 3
unfolding numbers_of blank digit
astray = refl

digits_of : decimal 65535 ≡ 54 ∷ 53 ∷ 53 ∷ 51 ∷ 53 ∷ []
unfolding decimal
digits_of = refl

-- "0 10 7"
listed : list_text (0 ∷ 10 ∷ 7 ∷ []) ≡ 48 ∷ 32 ∷ 49 ∷ 48 ∷ 32 ∷ 55 ∷ 10 ∷ []
unfolding decimal list_text
listed = refl

unlisted : list_text [] ≡ 10 ∷ []
unfolding list_text
unlisted = refl

-- a buffer with room for fewer, and one with room for more
room_for_fewer : buffer_of (parsed (1 ∷ 2 ∷ 3 ∷ [])) (9 ∷ 9 ∷ []) ≡ 1 ∷ 2 ∷ []
unfolding buffer_of over
room_for_fewer = refl

room_for_more : buffer_of (parsed (1 ∷ [])) (9 ∷ 9 ∷ []) ≡ 1 ∷ 9 ∷ []
unfolding buffer_of over
room_for_more = refl

-- line, entry and whether it has begun, at each of some offsets
abbrev Placed : List ℕ → List (ℕ × ℕ × ℕ × Bool) → Type 0
Placed text table = map (λ c. (c.0, line_at c.0 text, entry_at c.0 text, begun_at c.0 text)) table ≡ table

-- nothing yet, two entries on a line, a blank line, a tab, and the end of the text
places : Placed (bytes "12 3\r\n\n\t7x") ((0, 1, 0, false) ∷ (1, 1, 0, true) ∷ (3, 1, 1, false) ∷ (8, 3, 2, false) ∷ (9, 3, 2, true) ∷ (10, 3, 2, true) ∷ [])
unfolding line_at entry_at begun_at blank
places = refl
