-- `probe::run_list` meets its contract: what is left of the list answers, from the state and sum here, what the whole answers.
use mathlib.Core.Path.{◌≡◌, sym, ap, ◌∙◌}
use lib.ListN.{length}
use Rattle.facts.specs.Read.{refused}
use Rattle.facts.specs.Partial.{partial_at}
use Rattle.facts.specs.RunLaws.{attempt_length, run_missing, run_blocked, run_next, run_unmet, run_met}
use Rattle.probefile.specs.InPlace.{move_at}
use native.Mathlib.Omega.{arith}
use Rattle.probe.proofs.run_list.Goals as goal

pub returns-then-offsets-number : goal.returns-then-offsets-number
returns-then-offsets-number c =
    let l = c.loop-i in
    let a = c.args in
    sym (l.invariant.2 ∙ run_missing (length a.offsets.now) (move_at a.file.now a.offsets.now) (partial_at a.file.now a.goal) a.list.now l.state l.i l.sum c.loop-i-test.true c.if-offsets-number.true)

pub returns-in_default : goal.returns-in_default
unfolding move_at
returns-in_default c =
    let l = c.loop-i in
    let a = c.args in
    sym (l.invariant.2 ∙ run_blocked (length a.offsets.now) (move_at a.file.now a.offsets.now) (partial_at a.file.now a.goal) a.list.now l.state l.i l.sum c.loop-i-test.true c.if-offsets-number.false (sym c.in_default.ensures.state_after))

pub loop-i-preserved : goal.loop-i-preserved
unfolding move_at
loop-i-preserved c =
    let l = c.loop-i in
    let a = c.args in
    let did = c.in-Next.ensures in (
      attempt_length _ _ _ l.state (sym did.state_after) ∙ l.invariant.0,
      omega (arith, did.cost_most),
      l.invariant.2 ∙ run_next (length a.offsets.now) (move_at a.file.now a.offsets.now) (partial_at a.file.now a.goal) a.list.now l.state l.i l.sum c.loop-i-test.true c.if-offsets-number.false (sym did.state_after),
    )

pub returns-then-holds_at : goal.returns-then-holds_at
returns-then-holds_at c =
    let l = c.loop-i in
    let a = c.args in
    sym (l.invariant.2 ∙ run_met (length a.offsets.now) (move_at a.file.now a.offsets.now) (partial_at a.file.now a.goal) a.list.now l.state l.i l.sum c.loop-i-test.false (sym c.holds_at.ensures ∙ c.if-holds_at.true))

pub returns : goal.returns
returns c =
    let l = c.loop-i in
    let a = c.args in
    let end : length a.list.now ≡ l.i = omega arith in
    ap (refused 10) end ∙ sym (l.invariant.2 ∙ run_unmet (length a.offsets.now) (move_at a.file.now a.offsets.now) (partial_at a.file.now a.goal) a.list.now l.state l.i l.sum c.loop-i-test.false (sym c.holds_at.ensures ∙ c.if-holds_at.false))
