-- `offers::values_lowered` meets its contract: what is left to offer from the next standing bit on makes the whole.
use mathlib.Core.Path.{refl, ap, ◌∙◌}
use Rattle.estimate.specs.RanksLaws.{fell_none, fell_more}
use Rattle.estimate.specs.OfferLaws.{offering_start, offering_none, offering_cut, offering_past, offering_more}
use Rattle.partial.specs.declared.Standing.{Standing}
use Rattle.offers.proofs.values_lowered.Goals as goal

pub loop-v-init : goal.loop-v-init
loop-v-init c =
    let start = ap (λ (s : Standing). s.rest) c.into_iter-v-iterator.ensures.into_iter_gives ∙ c.standing_bits-v-items.ensures in
    rw start (tt, tt, fell_none _, offering_start _ _ _ _ _)

pub returns-then-v-ge-MAX_VARIABLES-clause-has_ranks : goal.returns-then-v-ge-MAX_VARIABLES-clause-has_ranks
returns-then-v-ge-MAX_VARIABLES-clause-has_ranks c = offering_past c.loop-v.invariant.3 c.in-Some.ensures.steps.1 c.if-v-ge-MAX_VARIABLES.true

pub returns-then-file-at-clause-has_ranks : goal.returns-then-file-at-clause-has_ranks
returns-then-file-at-clause-has_ranks c = offering_cut c.loop-v.invariant.3 c.if-file-at.true

pub loop-v-preserved : goal.loop-v-preserved
loop-v-preserved c =
    let l = c.loop-v in
    let fell = c.lower_fact-fell.ensures.fell in
    rw c.in-Some.ensures.steps.2 (
      tt,
      tt,
      fell_more l.invariant.2 fell refl,
      offering_more l.invariant.3 c.in-Some.ensures.steps.1 c.if-file-at.false fell.count c.lower_fact-fell.ensures.has_ranks,
    )

pub returns-clause-has_ranks : goal.returns-clause-has_ranks
returns-clause-has_ranks c = offering_none c.loop-v.invariant.3 c.in-None.ensures.steps.0
