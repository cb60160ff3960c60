-- `offers::inside::sum_inside` meets its contract: the ranks added so far and what is left from the next standing bit on make the whole.
use Prim.Native.Nat.{◌-◌}
use mathlib.Core.Path.{refl, ap, ◌∙◌}
use native.Mathlib.Omega.{arith}
use lib.Bits.{and_le_r}
use lib.Count.{ones-le}
use Rattle.facts.specs.BitsLaws.{lowest_below, ones_cleared}
use Rattle.estimate.specs.Number.{ranked}
use Rattle.estimate.specs.NumberLaws.{ranked_never}
use Rattle.estimate.specs.OfferLaws.{summing_none}
use Rattle.estimate.proofs.OfferLaws.{summing_start, summing_more}
use Rattle.estimate.specs.InsideLaws.{inside_value, inside_variable, inside_next, ranked_add}
use Rattle.estimate.proofs.InsideLaws.{summing_fact_never}
use Rattle.partial.specs.declared.Standing.{Standing}
use Rattle.offers.proofs.inside.sum_inside.Goals as goal

pub loop-v-init : goal.loop-v-init
loop-v-init c =
    let start = ap (λ (s : Standing). s.rest) c.into_iter-v-iterator.ensures.into_iter_gives ∙ c.standing_bits-v-items.ensures in
    rw start (tt, tt, omega (arith, ones-le 64 c.args.map (omega arith)), refl, omega arith, c.requires, λ n l. summing_start _ _ _ _ _)

pub bounds-file-end : goal.bounds-file-end
bounds-file-end c = inside_value c.loop-v.invariant.5 c.in-Some.ensures.steps.1

pub rank_inside-rank-requires : goal.rank_inside-rank-requires
rank_inside-rank-requires c = inside_variable c.loop-v.invariant.5 c.in-Some.ensures.steps.1

pub returns-then-rank-ge-NEVER-clause-by_index : goal.returns-then-rank-ge-NEVER-clause-by_index
returns-then-rank-ge-NEVER-clause-by_index c =
    let l = c.loop-v in
    let e = c.in-Some.ensures.steps.1 in
    λ n few. summing_fact_never (l.invariant.6 n few) e (lowest_below e n (omega (arith, few, l.invariant.4))) (inside_value l.invariant.5 e) c.rank_inside-rank.ensures (ranked_never c.rank_inside-rank.result c.if-rank-ge-NEVER.true)

pub loop-v-preserved : goal.loop-v-preserved
loop-v-preserved c =
    let l = c.loop-v in
    let e = c.in-Some.ensures.steps.1 in
    rw c.in-Some.ensures.steps.2 (
      tt,
      tt,
      omega (arith, l.invariant.2, ones_cleared e, c.if-rank-ge-NEVER.false),
      omega (arith, l.invariant.3, ones_cleared e),
      omega (arith, l.invariant.4, and_le_r l.v-iterator.rest (l.v-iterator.rest - 1)),
      inside_next l.invariant.5 e,
      λ n few. summing_more (l.invariant.6 n few) e (lowest_below e n (omega (arith, few, l.invariant.4))) (inside_value l.invariant.5 e) c.rank_inside-rank.ensures (ranked_add l.total c.rank_inside-rank.result c.if-rank-ge-NEVER.false),
    )

pub returns-clause-by_index : goal.returns-clause-by_index
returns-clause-by_index c = let l = c.loop-v in λ n few. ap ranked c.min.ensures ∙ summing_none (l.invariant.6 n few) c.in-None.ensures.steps.0
