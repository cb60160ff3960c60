-- `probe::step::apply_step` meets its contract: effect and cost stand where the partial state before them ends.
use mathlib.Core.Path.{ap₂, ◌∙◌}
use Rattle.facts.specs.Run.{next}
use Rattle.probefile.specs.InPlaceLaws.{performs, performs_not}
use Rattle.probe.proofs.step.apply_step.Goals as goal

pub returns-in_default-clause-state_after : goal.returns-in_default-clause-state_after
returns-in_default-clause-state_after c =
    let a = c.args in
    performs_not a.file.now a.at a.state.now c.in_default.ensures.result_value

pub returns-clause-state_after : goal.returns-clause-state_after
returns-clause-state_after c =
    let a = c.args in
    let held = c.in-Some.ensures in
    let set = c.apply_at-cost.ensures in
    ap₂ next set.state_after c.word_at.ensures.0 ∙ performs a.file.now a.at a.state.now held.ends_alike set.alike held.result_value
