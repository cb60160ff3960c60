-- The additive heuristic over achievers of fixed cost, computed.
use Rattle.std.specs.Prelude.{◌≡◌, refl, ℕ, List, [], ◌∷◌, map}
use Rattle.facts.specs.Partial.{Partial, empty}
use Rattle.estimate.specs.Number.{Number, exact, over, never}
use Rattle.estimate.specs.Rounds.{settled}
use Rattle.estimate.specs.Additive.{Achiever, additive_round, last_numbers, additive}

-- ---- A and B, of two values each

-- the facts of a partial state: its map, its values
abbrev facts : ℕ → List ℕ → Partial
facts map values = record { map = map; values = values }

abbrev A=1 : Partial
A=1 = facts 1 (1 ∷ [])

abbrev B=1 : Partial
B=1 = facts 2 (1 ∷ [])

-- A and B are both 1
abbrev both=1 : Partial
both=1 = facts 3 (1 ∷ 1 ∷ [])

-- precondition, effect, fixed cost
abbrev step : Partial → Partial → ℕ → Achiever
step pre eff cost = record { pre = pre; eff = eff; cost = λ of. exact cost }

-- a fact that two preconditions share is counted for each: C = 1 costs 5, and A = 1 and B = 1 need it
shared_twice : additive (2 ∷ 2 ∷ 2 ∷ []) (step (facts 4 (1 ∷ [])) A=1 0 ∷ step (facts 4 (1 ∷ [])) B=1 0 ∷ step empty (facts 4 (1 ∷ [])) 5 ∷ []) both=1 (0 ∷ 0 ∷ 0 ∷ []) ≡ exact 10
unfolding additive last_numbers additive_round settled
shared_twice = refl

-- A is set at 2, or at 0 where B is 1; B is set at 1: document 01's case with fixed costs
abbrev set_A_dear : Achiever
set_A_dear = step (facts 2 (0 ∷ [])) A=1 2

abbrev set_A_free : Achiever
set_A_free = step B=1 A=1 0

abbrev set_B : Achiever
set_B = step empty B=1 1

-- the largest exact number as a cost, which no file can have
abbrev set_B_largest : Achiever
set_B_largest = step empty B=1 4294967295

-- a goal, the achievers, and the estimate from the state in which both are 0
pub record SmallCase : Type 0 where
  pub goal : Partial
  pub achievers : List Achiever
  pub number : Number

abbrev for : Partial → List Achiever → Number → SmallCase
for goal achievers number = record { goal = goal; achievers = achievers; number = number }

abbrev pub small_cases : List SmallCase
small_cases =
    for A=1 (set_A_dear ∷ set_A_free ∷ set_B ∷ []) (exact 1)
    ∷ for A=1 (set_A_dear ∷ set_A_free ∷ []) (exact 2)
    ∷ for B=1 (set_A_dear ∷ set_A_free ∷ []) never
    -- the order does not matter
    ∷ for A=1 (set_B ∷ set_A_free ∷ set_A_dear ∷ []) (exact 1)
    -- an empty goal, with no achievers and with some
    ∷ for empty [] (exact 0)
    ∷ for empty (set_B ∷ []) (exact 0)
    -- the number of B = 1 counts twice: for itself, and in that of A = 1
    ∷ for both=1 (set_A_free ∷ set_B ∷ []) (exact 2)
    -- never plus anything is never
    ∷ for both=1 (set_A_dear ∷ []) never
    -- the largest exact number, and over above it
    ∷ for B=1 (set_B_largest ∷ []) (exact 4294967295)
    ∷ for A=1 (set_A_free ∷ set_B_largest ∷ []) (exact 4294967295)
    ∷ for A=1 (step B=1 A=1 1 ∷ set_B_largest ∷ []) over
    ∷ for both=1 (set_A_free ∷ set_B_largest ∷ []) over
    ∷ for A=1 (step B=1 A=1 1 ∷ set_A_dear ∷ set_B_largest ∷ []) (exact 2)
    ∷ []

small_estimates : map (λ c. additive (2 ∷ 2 ∷ []) c.achievers c.goal (0 ∷ 0 ∷ [])) small_cases ≡ map (λ c. c.number) small_cases
unfolding additive last_numbers additive_round settled
small_estimates = refl

-- a round uses old numbers alone: after one, B = 1 has a number and A = 1, which needs it, is still never; after the next it has one
first_round : additive_round (2 ∷ 2 ∷ []) (set_B ∷ set_A_free ∷ []) (exact 0 ∷ never ∷ exact 0 ∷ never ∷ []) ≡ exact 0 ∷ never ∷ exact 0 ∷ exact 1 ∷ []
unfolding additive_round
first_round = refl

second_round : additive_round (2 ∷ 2 ∷ []) (set_B ∷ set_A_free ∷ []) (exact 0 ∷ never ∷ exact 0 ∷ exact 1 ∷ []) ≡ exact 0 ∷ exact 1 ∷ exact 0 ∷ exact 1 ∷ []
unfolding additive_round
second_round = refl
