-- `partial::values_whole` meets its contract: from the next standing bit on, what is left answers what the whole answers, and the bytes of what is left are there.
use Prim.Native.Nat.{◌-◌, ◌+◌, ◌<◌}
use mathlib.Core.Path.{sym, ap, ◌∙◌}
use native.Mathlib.Omega.{arith}
use lib.Bits.{and_le_r}
use lib.Count.{ones}
use lib.ListN.{length}
use Rattle.facts.specs.BitsLaws.{lowest_below, ones_cleared}
use Rattle.facts.specs.Fields.{next_of}
use Rattle.facts.specs.FieldLaws.{value_inside, value_outside}
use Rattle.partial.proofs.Loops.{Rest, values_next, values_refused, values_done}
use Rattle.partial.proofs.values_whole.Goals as goal

pub bounds-file-at : goal.bounds-file-at
bounds-file-at c = omega (arith, c.loop-v.invariant.2, ones_cleared c.in-Some.ensures.steps.1)

pub bounds-sizes-v : goal.bounds-sizes-v
bounds-sizes-v c = lowest_below c.in-Some.ensures.steps.1 (length c.args.sizes.now) (omega (arith, c.loop-v.invariant.3, c.requires.1))

pub loop-v-preserved : goal.loop-v-preserved
loop-v-preserved c =
    let a = c.args in
    let l = c.loop-v in
    let taken = c.in-Some.ensures.steps in
    let e = taken.1 in
    let room : l.at < length a.file.now = omega (arith, l.invariant.2, ones_cleared e) in
    let below = lowest_below e (length a.sizes.now) (omega (arith, l.invariant.3, c.requires.1)) in (
      tt,
      tt,
      omega (arith, l.invariant.2, ones_cleared e, ap ones taken.2),
      omega (arith, l.invariant.3, and_le_r l.v-iterator.rest (l.v-iterator.rest - 1), taken.2),
      l.invariant.4 ∙ values_next a.file.now a.sizes.now e l.at below (sym (ap next_of (value_inside _ _ _ room c.if-file-at.true))) ∙ ap (λ m. Rest a.file.now a.sizes.now m (l.at + 1)) (sym taken.2),
    )

pub returns-in-loop-v : goal.returns-in-loop-v
returns-in-loop-v c =
    let a = c.args in
    let l = c.loop-v in
    let e = c.in-Some.ensures.steps.1 in
    let room : l.at < length a.file.now = omega (arith, l.invariant.2, ones_cleared e) in
    let below = lowest_below e (length a.sizes.now) (omega (arith, l.invariant.3, c.requires.1)) in
    sym (l.invariant.4 ∙ values_refused a.file.now a.sizes.now e l.at below (sym (ap next_of (value_outside _ _ _ room c.if-file-at.false))))

pub returns : goal.returns
returns c = sym (c.loop-v.invariant.4 ∙ values_done c.args.file.now c.args.sizes.now c.loop-v.at c.in-None.ensures.steps.0)
