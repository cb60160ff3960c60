-- `walk::action::apply_action` meets its contract: the effect stands where the precondition ends, and the walk is taken in the state before the
-- effect.
use mathlib.Core.Path.{sym, ap, ◌∙◌}
use Prim.Native.Nat.{ℕ}
use mathlib.Core.List.{List}
use Rattle.std.specs.Prelude.{Option, option_map}
use Rattle.facts.specs.Answers.{move_of}
use Rattle.facts.specs.Run.{next}
use Rattle.taskfile.specs.Task.{Walk}
use Rattle.taskfile.specs.WalkInPlaceLaws.{walk_behind, walk_noted}
use Rattle.taskfile.specs.MoveInPlaceLaws.{performs, performs_not}
use Rattle.taskfile.specs.declared.Walked.{Walked}
use Rattle.walk.proofs.action.apply_action.Goals as goal

pub returns-in_err-effect-clause-state_after : goal.returns-in_err-effect-clause-state_after
returns-in_err-effect-clause-state_after c =
    let a = c.args in
    ap (λ (r : Option Walked). move_of (option_map (λ walk. walk.cost) r) a.state.now) c.from_residual.ensures
    ∙ performs_not a.file.now a.at a.nodes.now a.state.now (λ w. w.cost) c.in_err-effect.ensures.result_value

pub returns-in_err-effect-clause-state_after_2 : goal.returns-in_err-effect-clause-state_after_2
returns-in_err-effect-clause-state_after_2 c =
    let a = c.args in
    ap (λ (r : Option Walked). move_of (option_map (λ walk. walk.passed) r) a.state.now) c.from_residual.ensures
    ∙ performs_not a.file.now a.at a.nodes.now a.state.now (λ w. w.passed) c.in_err-effect.ensures.result_value

pub returns-clause-state_after : goal.returns-clause-state_after
returns-clause-state_after c =
    let a = c.args in
    let f = a.file.now in
    let held = c.in_ok-effect.ensures in
    let walked = c.walk_from-walked in
    let same = walk_noted f a.at a.nodes.now a.state.now c.requires ∙ sym (walk_behind f a.at held.ends_alike a.nodes.now a.state.now) in
    ap (λ (s : List ℕ). next s walked.result.cost) c.apply_at.ensures.state_after
    ∙ performs f a.at a.nodes.now a.state.now (λ w. w.cost) held.ends_alike (walked.ensures.0 ∙ ap (λ (x : Walk). x.cost) same) held.result_value

pub returns-clause-state_after_2 : goal.returns-clause-state_after_2
returns-clause-state_after_2 c =
    let a = c.args in
    let f = a.file.now in
    let held = c.in_ok-effect.ensures in
    let walked = c.walk_from-walked in
    let same = walk_noted f a.at a.nodes.now a.state.now c.requires ∙ sym (walk_behind f a.at held.ends_alike a.nodes.now a.state.now) in
    ap (λ (s : List ℕ). next s walked.result.passed) c.apply_at.ensures.state_after
    ∙ performs f a.at a.nodes.now a.state.now (λ w. w.passed) held.ends_alike (walked.ensures.1 ∙ ap (λ (x : Walk). x.passed) same) held.result_value
