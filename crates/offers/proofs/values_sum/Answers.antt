-- `offers::values_sum` meets its contract: the total so far and what is left from the next standing bit on make the whole, and end where it ends.
use mathlib.Core.Path.{refl, ap, ◌∙◌}
use native.Mathlib.Omega.{arith}
use Rattle.facts.specs.BitsLaws.{ones_cleared}
use Rattle.estimate.specs.OfferLaws.{summing_none, summing_cut, summing_past}
use Rattle.estimate.proofs.OfferLaws.{summing_start, summing_more}
use Rattle.partial.specs.declared.Standing.{Standing}
use Rattle.offers.proofs.values_sum.Goals as goal

pub loop-v-init : goal.loop-v-init
loop-v-init c =
    let start = ap (λ (s : Standing). s.rest) c.into_iter-v-iterator.ensures.into_iter_gives ∙ c.standing_bits-v-items.ensures in
    rw start (tt, tt, c.requires, refl, summing_start _ _ _ _ _)

pub returns-then-n-v-clause-rank_value : goal.returns-then-n-v-clause-rank_value
returns-then-n-v-clause-rank_value c = summing_past c.loop-v.invariant.4 c.in-Some.ensures.steps.1 c.if-n-v.true

pub returns-then-file-end-clause-rank_value : goal.returns-then-file-end-clause-rank_value
returns-then-file-end-clause-rank_value c = summing_cut c.loop-v.invariant.4 c.if-file-end.true

pub loop-v-preserved : goal.loop-v-preserved
loop-v-preserved c =
    let e = c.in-Some.ensures.steps.1 in
    rw c.in-Some.ensures.steps.2 (tt, tt, omega (arith, c.if-file-end.false), omega (arith, c.loop-v.invariant.3, ones_cleared e), summing_more c.loop-v.invariant.4 e (omega arith) c.if-file-end.false c.rank_of.ensures c.sum_rank-total.ensures)

pub returns-clause-rank_value : goal.returns-clause-rank_value
returns-clause-rank_value c = summing_none c.loop-v.invariant.4 c.in-None.ensures.steps.0
