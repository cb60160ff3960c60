-- `failure::run::advance` meets its contract: the precondition, and where it holds the effect, which stands where it ends.
use mathlib.Core.Path.{sym, ap, ◌∙◌}
use Rattle.facts.specs.Partial.{Partial, apply, partial_at, past_partial}
use Rattle.facts.specs.InPlaceLaws.{alike_partial}
use Rattle.failure.specs.FailureLaws.{advanced_on, advanced_not}
use Rattle.failure.proofs.run.advance.Goals as goal

pub returns-in-None-clause-state_after : goal.returns-in-None-clause-state_after
returns-in-None-clause-state_after c =
    let a = c.args in
    sym (advanced_not (partial_at a.file.now a.place) (partial_at a.file.now (past_partial a.file.now a.place)) a.state.now (sym c.in-None.ensures.result_value))

pub returns-in-Some-clause-state_after : goal.returns-in-Some-clause-state_after
returns-in-Some-clause-state_after c =
    let a = c.args in
    let f = a.file.now in
    let held = c.in-Some.ensures in
    c.apply_at.ensures.state_after ∙ ap (λ (eff : Partial). apply eff a.state.now) (alike_partial f held.ends_alike) ∙ sym (advanced_on (partial_at f a.place) (partial_at f (past_partial f a.place)) a.state.now (sym held.result_value))
