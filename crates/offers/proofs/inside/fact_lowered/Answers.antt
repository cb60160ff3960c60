-- `offers::inside::fact_lowered` meets its contract: the offer is stored where it is the lesser rank. Assumes nothing.
use native.Mathlib.Omega.{arith}
use Rattle.estimate.specs.RanksLaws.{fell_stored, fact_low, fact_lowered}
use Rattle.offers.proofs.inside.fact_lowered.Goals as goal

pub returns-then-ranks-i-clause-has_ranks : goal.returns-then-ranks-i-clause-has_ranks
returns-then-ranks-i-clause-has_ranks c = let a = c.args in fact_low a.ranks.now a.v a.d a.offer 0 c.requires c.if-ranks-i.true

pub returns-clause-has_ranks : goal.returns-clause-has_ranks
returns-clause-has_ranks c =
    let a = c.args in
    fact_lowered a.ranks.now a.v a.d a.offer 0 c.requires (omega arith)

pub returns-clause-fell : goal.returns-clause-fell
returns-clause-fell c =
    let a = c.args in
    fell_stored _ _ _ 0 (omega (arith, c.requires.place)) (omega arith)
