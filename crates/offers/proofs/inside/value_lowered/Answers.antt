-- `offers::inside::value_lowered` meets its contract: where there is room for a variable, its values up to the last have it. Assumes nothing.
use native.Mathlib.Omega.{arith}
use Rattle.estimate.specs.RanksLaws.{fact_no_room}
use Rattle.offers.proofs.inside.value_lowered.Goals as goal

pub returns-then-d-ge-MAX_VALUES-clause-has_ranks : goal.returns-then-d-ge-MAX_VALUES-clause-has_ranks
returns-then-d-ge-MAX_VALUES-clause-has_ranks c = fact_no_room _ _ _ _ (λ r. omega (arith, r.value, c.if-d-ge-MAX_VALUES.true))
