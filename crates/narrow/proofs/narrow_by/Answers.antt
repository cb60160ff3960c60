-- `narrow::narrow_by` meets its contract: what is left of the check answers what the whole answers, and the copy is narrowed up to here. Assumes nothing.
use Prim.Native.Nat.{ℕ, ◌<◌}
use mathlib.Core.Path.{◌≡◌, sym, ap, ◌∙◌}
use lib.ListN.{get_or}
use native.Mathlib.Omega.{arith}
use Rattle.facts.specs.ListLaws.{all_at, at_get_d}
use Rattle.facts.specs.Partial.{standing_at}
use Rattle.facts.specs.ReadLaws.{not_refused}
use Rattle.value.specs.Value.{value_of}
use Rattle.value.specs.ValueLaws.{lower_most}
use Rattle.relaxation.specs.Narrowing.{kept_set}
use Rattle.narrow.specs.LoopLaws.{going_start, going_lacks, going_next, going_end, reading_start, reading_value, reading_next}
use Rattle.narrow.proofs.narrow_by.Goals as goal
use Rattle.narrow.proofs.narrow_by.Goals.{After-kept_set-kept}

-- what is left of a set
kept-is : (c : goal.After-kept_set-kept) → c.kept_set-kept.result ≡ kept_set (get_or c.args.sets.now c.loop-v.v 0) (value_of (standing_at c.args.file.now c.args.map c.args.values) c.loop-v.v)
kept-is c =
    let l = c.loop-v in
    c.kept_set-kept.ensures ∙ ap (kept_set (get_or c.args.sets.now l.v 0)) (c.next_value.ensures ∙ reading_value l.invariant.1 c.args.file.now)

pub loop-v-init : goal.loop-v-init
loop-v-init c = (going_start (standing_at c.args.file.now c.args.map c.args.values) c.args.sets.now _ c.requires.2, reading_start c.args.map c.args.values)

pub returns-then-kept-eq0-clause-result_value : goal.returns-then-kept-eq0-clause-result_value
returns-then-kept-eq0-clause-result_value c =
    let l = c.loop-v in
    let in-turn = c.loop-v-test.true in
    let lacks = going_lacks l.invariant.0 in-turn (kept-is (goal.at.returns-then-kept-eq0-clause-result_value c).After-kept_set-kept) (all_at (λ (b : ℕ). 0 < b) c.requires.1 (at_get_d c.args.sets.now l.v 0 in-turn)) c.if-kept-eq0.true in
    sym lacks

pub returns-then-kept-eq0-clause-narrows : goal.returns-then-kept-eq0-clause-narrows
returns-then-kept-eq0-clause-narrows c =
    let l = c.loop-v in
    let in-turn = c.loop-v-test.true in
    let lacks = going_lacks l.invariant.0 in-turn (kept-is (goal.at.returns-then-kept-eq0-clause-narrows c).After-kept_set-kept) (all_at (λ (b : ℕ). 0 < b) c.requires.1 (at_get_d c.args.sets.now l.v 0 in-turn)) c.if-kept-eq0.true in
    λ h. absurd (not_refused (sym lacks ∙ h))

pub overflow_add-at : goal.overflow_add-at
overflow_add-at c = let l = c.loop-v in omega (arith, c.requires.0, l.invariant.1.values, lower_most c.args.map l.v c.ranges.map.fits)

pub loop-v-preserved : goal.loop-v-preserved
loop-v-preserved c =
    let l = c.loop-v in
    (going_next l.invariant.0 c.loop-v-test.true (kept-is (goal.at.loop-v-preserved c).After-kept_set-kept) c.if-kept-eq0.false, reading_next l.invariant.1)

pub returns-clause-result_value : goal.returns-clause-result_value
returns-clause-result_value c = let done = going_end c.loop-v.invariant.0 (omega (arith, c.loop-v-test.false)) in sym done.0

pub returns-clause-narrows : goal.returns-clause-narrows
returns-clause-narrows c = let done = going_end c.loop-v.invariant.0 (omega (arith, c.loop-v-test.false)) in λ h. done.1
