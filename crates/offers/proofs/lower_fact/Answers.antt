-- `offers::lower_fact` meets its contract: no fact without room has a rank, and one with room is lowered.
use native.Mathlib.Omega.{arith}
use Rattle.estimate.specs.RanksLaws.{fact_no_room}
use Rattle.offers.proofs.lower_fact.Goals as goal

pub returns-then-v-ge-MAX_VARIABLES-clause-has_ranks : goal.returns-then-v-ge-MAX_VARIABLES-clause-has_ranks
returns-then-v-ge-MAX_VARIABLES-clause-has_ranks c = fact_no_room _ _ _ _ (λ r. omega (arith, r.variable))

pub returns-then-d-ge-MAX_VALUES-clause-has_ranks : goal.returns-then-d-ge-MAX_VALUES-clause-has_ranks
returns-then-d-ge-MAX_VALUES-clause-has_ranks c = fact_no_room _ _ _ _ (λ r. omega (arith, r.value))

pub returns-then-ranks-v-clause-has_ranks : goal.returns-then-ranks-v-clause-has_ranks
returns-then-ranks-v-clause-has_ranks c = fact_no_room _ _ _ _ (λ r. omega (arith, r.place))
