-- How many rounds there are: no more change something than there are facts. A fact that one round changes is changed because of a fact that the
-- round before has changed, to no more; so each round that changes something finds one fact more that has at most the number that it gives.
use Rattle.std.specs.Prelude.{◌≡◌, ◌≢◌, ℕ, zero, suc, ◌<◌, List}
use Rattle.estimate.specs.Number.{Number}
use Rattle.estimate.specs.Rounds.{settle}
use Rattle.estimate.specs.Additive.{fact_count, Achiever, additive_round, start_numbers, last_numbers}

-- ---- the statement

-- the numbers after n rounds
abbrev pub after_rounds : (List Number → List Number) → ℕ → List Number → List Number
after_rounds round zero numbers = numbers
after_rounds round (suc n) numbers = round (after_rounds round n numbers)

-- "Rounds go on until one changes nothing." One that changes something has fewer rounds before it than there are facts; and as many rounds as
-- there are facts are enough for the last numbers. This bounds the rounds of the definition; the code makes turns, and nothing is said here of how many.
pub record FewRounds (sizes : List ℕ) (achievers : List Achiever) (s : List ℕ) : Type 0 where
  pub changes : (k : ℕ)
      → let numbers = after_rounds (additive_round sizes achievers) k (start_numbers sizes s) in
      additive_round sizes achievers numbers ≢ numbers → k < fact_count sizes
  pub enough : settle (additive_round sizes achievers) (fact_count sizes) (start_numbers sizes s) ≡ last_numbers sizes achievers s
