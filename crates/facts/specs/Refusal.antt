-- The refusals of document 01, "Turned down", and of document 02: the number and the place that the document gives for each case of the code's enum.
-- Every promise about a refusal goes through these two.
use Rattle.std.specs.Prelude.{ℕ, List, [], ◌∷◌, eqb, Option}
use Rattle.facts.specs.Lists.{find}
use Rattle.facts.specs.declared.Refusal.{Refusal}
use Rattle.facts.specs.declared.Refusal.TheVariants.{Ends, Trailing, Range, Outside, Stray, Diagram, Short, Long, Blocked, Unmet, Missing, Width, Lacking}

abbrev pub number : Refusal → ℕ
number (Ends p) = 1
number (Trailing p) = 2
number (Range p) = 3
number (Outside p) = 4
number (Stray p) = 5
number (Diagram p) = 6
number (Short p) = 7
number (Long p) = 8
number (Blocked p) = 9
number (Unmet p) = 10
number (Missing p) = 11
number (Width p) = 12
number (Lacking p) = 17

abbrev pub place : Refusal → ℕ
place (Ends p) = p
place (Trailing p) = p
place (Range p) = p
place (Outside p) = p
place (Stray p) = p
place (Diagram p) = p
place (Short p) = p
place (Long p) = p
place (Blocked p) = p
place (Unmet p) = p
place (Missing p) = p
place (Width p) = p
place (Lacking p) = p

-- all of them, at a place
abbrev pub refusals : ℕ → List Refusal
refusals p = Ends p ∷ Trailing p ∷ Range p ∷ Outside p ∷ Stray p ∷ Diagram p ∷ Short p ∷ Long p ∷ Blocked p ∷ Unmet p ∷ Missing p ∷ Width p ∷ Lacking p ∷ []

-- the one that has a number, at a place
unfoldable pub refusal_with : ℕ → ℕ → Option Refusal
refusal_with n p = find (λ (why : Refusal). eqb n (number why)) (refusals p)
