-- `offers::goal_sum` meets its contract: the total so far and what is left from the next standing bit on make the whole.
use Prim.Native.Nat.{◌+◌}
use mathlib.Core.Path.{◌≡◌, refl, sym, ap, subst, ◌∙◌}
use native.Mathlib.Omega.{arith}
use lib.ListN.{get_or-eq_default}
use Rattle.facts.specs.Read.{accepted}
use Rattle.facts.specs.Partial.{Partial}
use Rattle.facts.specs.Fields.{read_number}
use Rattle.facts.specs.FieldLaws.{number_read}
use Rattle.facts.specs.InPlaceLaws.{standing_read, empty_read}
use Rattle.estimate.specs.declared.Est.TheVariants.{Never}
use Rattle.estimate.specs.Number.{number, exact}
use Rattle.estimate.specs.Facts.{number_in}
use Rattle.estimate.specs.Additive.{sum_from}
use Rattle.estimate.specs.OfferLaws.{sum_empty, Summing, summing_none, summing_cut, summing_past}
use Rattle.estimate.proofs.OfferLaws.{summing_start, summing_more}
use Rattle.estimate.proofs.InsideLaws.{summing_fact_never}
use Rattle.partial.specs.declared.Standing.{Standing}
use Rattle.offers.proofs.goal_sum.Goals as goal
use Rattle.offers.proofs.goal_sum.Goals.{In-Ok}

map_is : (c : goal.In-Ok) → read_number c.args.file.now 8 c.args.at ≡ accepted c.in-Ok.map
map_is c = sym c.in-Ok.ensures

pub returns-in_default : goal.returns-in_default
returns-in_default c =
    let a = c.args in
    sym (sum_empty (number_in a.numbers.now) a.n (empty_read a.file.now a.at (sym c.in_default.ensures)))

pub overflow_add-end : goal.overflow_add-end
overflow_add-end c = omega (arith, (number_read _ 8 _ (map_is c)).fits)

pub loop-v-init : goal.loop-v-init
loop-v-init c =
    let a = c.args in
    let of = number_in a.numbers.now in
    let map = map_is (goal.at.loop-v-init c).In-Ok in
    let start = ap (λ (s : Standing). s.rest) c.into_iter-v-iterator.ensures.into_iter_gives ∙ c.standing_bits-v-items.ensures in
    rw start (tt, tt, (number_read _ 8 _ map).fits, subst (λ (p : Partial). Summing of a.file.now a.n c.in-Ok.map (a.at + 8) (sum_from of 0 a.n p) (exact 0)) (sym (standing_read _ _ map)) (summing_start _ _ _ _ _))

pub returns-then-n-v : goal.returns-then-n-v
returns-then-n-v c = summing_past c.loop-v.invariant.3 c.in-Some.ensures.steps.1 c.if-n-v.true

pub returns-then-file-end : goal.returns-then-file-end
returns-then-file-end c = summing_cut c.loop-v.invariant.3 c.if-file-end.true

-- past the end of the array a number is never
pub returns-then-numbers-i : goal.returns-then-numbers-i
returns-then-numbers-i c =
    summing_fact_never c.loop-v.invariant.3 c.in-Some.ensures.steps.1 c.if-n-v.false c.if-file-end.false (sym (ap number (get_or-eq_default c.args.numbers.now Never (omega (arith, c.if-numbers-i.true))))) refl

pub loop-v-preserved : goal.loop-v-preserved
loop-v-preserved c = rw c.in-Some.ensures.steps.2 (tt, tt, omega (arith, c.if-file-end.false), summing_more c.loop-v.invariant.3 c.in-Some.ensures.steps.1 c.if-n-v.false c.if-file-end.false refl c.sum-total.ensures)

pub returns : goal.returns
returns c = summing_none c.loop-v.invariant.3 c.in-None.ensures.steps.0
