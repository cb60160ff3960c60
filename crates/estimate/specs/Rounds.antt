-- Rounds over one number for every fact, whatever the facts are of. Document 01, "Relaxed cost and estimate".
use Rattle.std.specs.Prelude.{ℕ, zero, suc, Bool, true, false, ◌&&◌, List, [], ◌∷◌}
use Rattle.facts.specs.Lists.{total, All, Zip}
use Rattle.estimate.specs.Number.{Number, lesser, AtMost, same, WithinCap, rank}

-- each number becomes "the lesser of its old number and" what is offered to it; where nothing is offered it stays
abbrev pub lowered : List Number → List Number → List Number
lowered [] offers = []
lowered (x ∷ numbers) [] = x ∷ lowered numbers []
lowered (x ∷ numbers) (y ∷ offers) = lesser x y ∷ lowered numbers offers

-- a round: the offers are made of old numbers alone
abbrev pub round_of : (List Number → List Number) → List Number → List Number
round_of offers numbers = lowered numbers (offers numbers)

-- whether two lists have the same numbers
abbrev pub same_all : List Number → List Number → Bool
same_all [] [] = true
same_all [] (y ∷ ys) = false
same_all (x ∷ xs) [] = false
same_all (x ∷ xs) (y ∷ ys) = same x y && same_all xs ys

-- rounds until one changes nothing, and n at most
abbrev pub settle : (List Number → List Number) → ℕ → List Number → List Number
settle round zero numbers = numbers
settle round (suc n) numbers =
    let next = round numbers in
    elim (same_all numbers next) [ true ↦ numbers | false ↦ settle round n next ]

-- "Rounds go on until one changes nothing." Each that changes something lowers the sum of all ranks, so there are at most that many.
unfoldable pub settled : (List Number → List Number) → List Number → List Number
settled round numbers = settle round (total rank numbers) numbers

-- rounds lead from numbers to later ones
pub data Leads (round : List Number → List Number) : List Number → List Number → Type 0 where
  stay : {numbers : List Number} → Leads round numbers numbers
  go_on : {numbers later : List Number} → Leads round (round numbers) later → Leads round numbers later

-- a round that keeps numbers within the cap and raises none
pub record Lowering (round : List Number → List Number) : Type 0 where
  pub within : (numbers : List Number) → All WithinCap numbers → All WithinCap (round numbers)
  pub raises_none : (numbers : List Number) → All WithinCap numbers → Zip AtMost (round numbers) numbers
