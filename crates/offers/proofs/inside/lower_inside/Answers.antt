-- `offers::inside::lower_inside` meets its contract: what is left to offer from the next standing bit on makes the whole.
use mathlib.Core.Path.{refl, ap, ◌∙◌}
use native.Mathlib.Omega.{arith}
use Rattle.estimate.specs.RanksLaws.{fell_none, fell_more}
use Rattle.estimate.specs.OfferLaws.{offering_start, offering_none, offering_more}
use Rattle.estimate.specs.InsideLaws.{inside_value, inside_variable, inside_next}
use Rattle.partial.specs.declared.Standing.{Standing}
use Rattle.offers.proofs.inside.lower_inside.Goals as goal

pub loop-v-init : goal.loop-v-init
loop-v-init c =
    let start = ap (λ (s : Standing). s.rest) c.into_iter-v-iterator.ensures.into_iter_gives ∙ c.standing_bits-v-items.ensures in
    rw start (tt, tt, fell_none _, c.requires, offering_start _ _ _ _ _)

pub bounds-file-at : goal.bounds-file-at
bounds-file-at c = inside_value c.loop-v.invariant.3 c.in-Some.ensures.steps.1

pub value_lowered-fell-requires : goal.value_lowered-fell-requires
value_lowered-fell-requires c =
    let l = c.loop-v in
    let here = inside_variable l.invariant.3 c.in-Some.ensures.steps.1 in
    (here.0, omega (arith, here.1, l.invariant.2.count))

pub loop-v-preserved : goal.loop-v-preserved
loop-v-preserved c =
    let l = c.loop-v in
    let e = c.in-Some.ensures.steps.1 in
    let lowered = c.value_lowered-fell.ensures in
    rw c.in-Some.ensures.steps.2 (
      tt,
      tt,
      fell_more l.invariant.2 lowered.fell refl,
      inside_next l.invariant.3 e,
      offering_more l.invariant.4 e (inside_value l.invariant.3 e) lowered.fell.count lowered.has_ranks,
    )

pub returns-clause-has_ranks : goal.returns-clause-has_ranks
returns-clause-has_ranks c = offering_none c.loop-v.invariant.4 c.in-None.ensures.steps.0
