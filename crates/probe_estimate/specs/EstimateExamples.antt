-- The estimate of the probe file written from document 01's task P, computed.
use Rattle.std.specs.Prelude.{◌≡◌, refl, ℕ, List, [], ◌∷◌, ◌++◌, map, take}
use Rattle.facts.specs.Read.{Read, accepted, refused}
use Rattle.facts.specs.Bytes.{number_at}
use Rattle.facts.specs.State.{check_state}
use Rattle.facts.specs.Fields.{read_number, field, read_count, read_value, read_map, read_weight, read_values, read_partial, read_operator, read_sizes, read_head, read_end}
use Rattle.estimate.specs.Number.{Number, exact}
use Rattle.estimate.specs.Rounds.{settled}
use Rattle.estimate.specs.Additive.{additive_round, last_numbers, additive, estimate_file}
use Rattle.probefile.specs.ProbeFile.{read_step, read_step_count, read_steps, read_probe}
use Rattle.probe_estimate.specs.Estimate.{estimate_probe}
use Rattle.probefile.specs.Examples.{P_file}

-- a file, a state and what the operation answers
pub record EstimateCase : Type 0 where
  pub file : List ℕ
  pub state : List ℕ
  pub answer : Read Number

abbrev on : List ℕ → List ℕ → Read Number → EstimateCase
on file state answer = record { file = file; state = state; answer = answer }

abbrev pub estimate_cases : List EstimateCase
estimate_cases =
    -- from the initial state: start 3, the edge for value 0 5, end 0
    on P_file (0 ∷ 0 ∷ 0 ∷ []) (accepted (exact 8))
    -- from a state that has the goal
    ∷ on P_file (1 ∷ 0 ∷ 0 ∷ []) (accepted (exact 0))
    -- halfway: each of the three goal facts has the number 5, by one and the same end
    ∷ on P_file (0 ∷ 1 ∷ 1 ∷ []) (accepted (exact 15))
    -- 12 for the length, before any value
    ∷ on P_file [] (refused 12 0)
    ∷ on P_file (2 ∷ 0 ∷ []) (refused 12 0)
    ∷ on P_file (0 ∷ 0 ∷ 0 ∷ 0 ∷ []) (refused 12 0)
    -- 4 at the lowest variable with a value outside its domain
    ∷ on P_file (0 ∷ 2 ∷ 3 ∷ []) (refused 4 1)
    ∷ on P_file (0 ∷ 0 ∷ 3 ∷ []) (refused 4 2)
    -- the file before the state
    ∷ on (take 3 P_file) [] (refused 1 3)
    ∷ on (P_file ++ (0 ∷ [])) (2 ∷ 0 ∷ 0 ∷ []) (refused 2 106)
    ∷ []

estimates : map (λ c. estimate_probe c.file c.state) estimate_cases ≡ map (λ c. c.answer) estimate_cases
unfolding estimate_file read_probe read_steps read_step_count read_step read_operator read_head read_sizes read_values read_partial read_weight read_map read_value read_count read_end field read_number number_at check_state additive last_numbers additive_round settled
estimates = refl
