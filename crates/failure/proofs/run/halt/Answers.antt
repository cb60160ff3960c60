-- `failure::run::halt` meets its contract: what is left of the list comes from the state here to the end that the whole comes to.
use Prim.Native.Nat.{ℕ, ◌+◌}
use mathlib.Core.Path.{sym, ap, ◌∙◌}
use mathlib.Core.List.{List}
use lib.ListN.{length, drop, get_or}
use Rattle.facts.specs.Read.{accepted}
use Rattle.failure.specs.Failure.{stopped}
use Rattle.failure.specs.InPlace.{pre_at, eff_at, halt_in}
use Rattle.failure.specs.FailureLaws.{halt_missing, halt_stopped, halt_next, halt_ended, advanced_on, advanced_not}
use Rattle.failure.proofs.run.halt.Goals as goal

pub returns-then-offsets-number : goal.returns-then-offsets-number
returns-then-offsets-number c =
    let a = c.args in
    let l = c.loop-i in
    sym (l.invariant.1 ∙ halt_missing (length a.offsets.now) (pre_at a.file.now a.offsets.now) (eff_at a.file.now a.offsets.now) a.list.now l.state l.i c.loop-i-test.true c.if-offsets-number.true)

pub loop-i-preserved : goal.loop-i-preserved
loop-i-preserved c =
    let a = c.args in
    let l = c.loop-i in
    let holds = sym c.advance-applies.ensures.value ∙ c.if-not-applies.false in
    let number = get_or a.list.now l.i 0 in
    let moved = c.advance-applies.ensures.state_after ∙ advanced_on (pre_at a.file.now a.offsets.now number) (eff_at a.file.now a.offsets.now number) l.state holds in (
      c.advance-applies.auto.state ∙ l.invariant.0,
      l.invariant.1 ∙ halt_next (length a.offsets.now) (pre_at a.file.now a.offsets.now) (eff_at a.file.now a.offsets.now) a.list.now l.state l.i c.loop-i-test.true c.if-offsets-number.false holds
          ∙ ap (λ (s : List ℕ). halt_in a.file.now a.offsets.now (l.i + 1) (drop (l.i + 1) a.list.now) s) (sym moved),
    )

pub returns-then-not-applies : goal.returns-then-not-applies
returns-then-not-applies c =
    let a = c.args in
    let l = c.loop-i in
    let fails = sym c.advance-applies.ensures.value ∙ c.if-not-applies.true in
    let number = get_or a.list.now l.i 0 in
    let stays = c.advance-applies.ensures.state_after ∙ advanced_not (pre_at a.file.now a.offsets.now number) (eff_at a.file.now a.offsets.now number) l.state fails in
    ap (λ (s : List ℕ). accepted (stopped l.i number (pre_at a.file.now a.offsets.now number) s)) stays
    ∙ sym (l.invariant.1 ∙ halt_stopped (length a.offsets.now) (pre_at a.file.now a.offsets.now) (eff_at a.file.now a.offsets.now) a.list.now l.state l.i c.loop-i-test.true c.if-offsets-number.false fails)

pub returns : goal.returns
returns c =
    let a = c.args in
    let l = c.loop-i in
    sym (l.invariant.1 ∙ halt_ended (length a.offsets.now) (pre_at a.file.now a.offsets.now) (eff_at a.file.now a.offsets.now) a.list.now l.state l.i c.loop-i-test.false)
