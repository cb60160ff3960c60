-- `estimate::start_in` meets its contract: the array has the numbers of as many variables as are read, and the ranks are lowered to them.
use mathlib.Core.Path.{refl, ap, ◌∙◌}
use native.Mathlib.Omega.{arith}
use lib.ListN.{length-set}
use lib.Seq.{get_or-set_same}
use Rattle.estimate.specs.declared.Est.TheVariants.{Never, Exact}
use Rattle.estimate.specs.Number.{number}
use Rattle.estimate.specs.FactsLaws.{start_stored, start_passed, start_full}
use Rattle.estimate.specs.RanksLaws.{started_none, started_stored, started_passed, started_full}
use Rattle.estimate.proofs.start_in.Goals as goal

pub loop-v-init : goal.loop-v-init
loop-v-init c = record { facts = c.told-numbers; count = refl; numbers = λ h. h; ranks = started_none _ }

pub loop-v-preserved-then-d-ge-MAX_VALUES : goal.loop-v-preserved-then-d-ge-MAX_VALUES
loop-v-preserved-then-d-ge-MAX_VALUES c =
    let l = c.loop-v in
    record {
      facts = l.invariant.facts;
      count = l.invariant.count;
      numbers = λ never. start_passed _ l.v (l.invariant.numbers never) (omega arith) c.if-d-ge-MAX_VALUES.true;
      ranks = started_passed _ _ l.v l.invariant.ranks (omega arith) (λ room. omega (arith, c.if-d-ge-MAX_VALUES.true, room.value));
    }

pub loop-v-preserved-then-ranks-i : goal.loop-v-preserved-then-ranks-i
loop-v-preserved-then-ranks-i c =
    let l = c.loop-v in
    record {
      facts = length-set l.numbers _ (Exact 0) ∙ l.invariant.facts;
      count = l.invariant.count;
      numbers = λ never. start_stored _ l.v (l.invariant.numbers never) (omega arith) (omega arith) (omega arith);
      ranks = started_passed _ _ l.v l.invariant.ranks (omega arith) (λ room. omega (arith, c.if-ranks-i.true, room.place));
    }

pub loop-v-preserved : goal.loop-v-preserved
loop-v-preserved c =
    let l = c.loop-v in
    record {
      facts = length-set l.numbers _ (Exact 0) ∙ l.invariant.facts;
      count = length-set l.ranks _ c.rank.result ∙ l.invariant.count;
      numbers = λ never. start_stored _ l.v (l.invariant.numbers never) (omega arith) (omega arith) (omega arith);
      ranks = started_stored _ _ l.v l.invariant.ranks refl (omega arith) (record { variable = omega arith; value = omega arith; place = omega arith }) _ (c.rank.ensures ∙ ap number (get_or-set_same l.numbers _ (Exact 0) Never (omega arith)));
    }

pub returns-clause-has_numbers : goal.returns-clause-has_numbers
returns-clause-has_numbers c = λ never. start_full _ c.loop-v.v (c.loop-v.invariant.numbers never) (omega arith)

pub returns-clause-has_ranks : goal.returns-clause-has_ranks
returns-clause-has_ranks c = started_full _ _ c.loop-v.v c.loop-v.invariant.ranks (omega arith)
