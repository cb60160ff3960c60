-- Relaxed states, and the relaxed cost of an action. Document 01, "Relaxed cost and estimate", as W5 of document 02 has it.
use Rattle.std.specs.Prelude.{ℕ, zero, suc, ◌/◌, ◌%◌, ◌^◌, ◌<◌, min, Bool, true, false, List, [], ◌∷◌, map}
use Rattle.facts.specs.Lists.{Zip}
use Rattle.facts.specs.Partial.{Partial, holds}
use Rattle.taskfile.specs.Task.{Action, max_values, cost}
use Rattle.relaxation.specs.Least.{least_of, states}

-- the values of a set, "bit d for value d": its lowest bit is for value d, and n bits are looked at
abbrev pub values_from : ℕ → ℕ → ℕ → List ℕ
values_from zero d set = []
values_from (suc n) d set = elim (set % 2) [ zero ↦ values_from n (suc d) (set / 2) | suc b ↦ d ∷ values_from n (suc d) (set / 2) ]

-- the values in one byte of a relaxed state
abbrev pub values_in : ℕ → List ℕ
values_in set = values_from max_values 0 set

-- a set that is not empty and has no bit that is no value of a variable of `size` values
pub record SetInside (size set : ℕ) : Type 0 where
  pub some : 0 < set
  pub no_stray : set < 2 ^ size

-- a relaxed state: such a set for each variable
abbrev pub RelaxedInside : List ℕ → List ℕ → Type 0
RelaxedInside sizes sets = Zip SetInside sizes sets

-- all states whose every value is in the sets
abbrev pub states_in : List ℕ → List (List ℕ)
states_in sets = states (map values_in sets)

-- the elements that pass a test
abbrev pub passing : {A : Type 0} → (A → Bool) → List A → List A
passing test [] = []
passing test (x ∷ xs) = elim (test x) [ true ↦ x ∷ passing test xs | false ↦ passing test xs ]

-- "states that are in the sets and also meet the precondition"
abbrev pub states_meeting : Partial → List ℕ → List (List ℕ)
states_meeting pre sets = passing (holds pre) (states_in sets)

-- The relaxed cost of an action: "it is the least over states that are in the sets and also meet the precondition".
unfoldable pub relaxed_cost : Action → List ℕ → ℕ
relaxed_cost x sets = least_of min 0 (map (cost x) (states_meeting x.pre sets))
