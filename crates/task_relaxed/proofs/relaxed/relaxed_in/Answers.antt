-- `task_relaxed::relaxed::relaxed_in` meets its contract: the number, the relaxed state, and then the pass over the action's nodes by the index.
use Prim.Native.Nat.{◌+◌, ◌-◌}
use mathlib.Core.Path.{◌≡◌, sym, ◌∙◌}
use Rattle.facts.specs.AnswerLaws.{handed}
use Rattle.taskfile.specs.Row.{own_from}
use Rattle.taskfile.specs.MoveInPlaceLaws.{own_nodes}
use Rattle.taskfile.specs.AnswerLaws.{ask_missing}
use Rattle.taskfile.proofs.AnswerLaws.{starts, sizes_there, ask_state, ask_is}
use Rattle.relaxation.specs.RelaxedTask.{check_relaxed}
use Rattle.relaxation.specs.RelaxedTaskLaws.{relaxable, action_in_place, asked_refused, asked_is, sets_few}
use Rattle.relaxation.proofs.RelaxedTaskLaws.{relaxed_inside}
use native.Mathlib.Omega.{arith}
use Rattle.task_relaxed.proofs.relaxed.relaxed_in.Goals as goal
use Rattle.task_relaxed.proofs.relaxed.relaxed_in.Goals.{Start}

-- the domain sizes are one for each variable
same : (c : goal.Start) → 1 + c.args.variables - 1 ≡ c.args.variables
same c = omega arith

pub returns-then-actions-action : goal.returns-then-actions-action
returns-then-actions-action c = sym (asked_refused _ _ _ (ask_missing c.args.file.now c.requires check_relaxed (λ x sets. x) c.args.action c.args.sets.now c.if-actions-action.true))

pub overflow_add-last : goal.overflow_add-last
overflow_add-last c = omega (arith, (starts _ c.requires).fits)

pub slice_bounds-sizes-end : goal.slice_bounds-sizes-end
slice_bounds-sizes-end c = omega (arith, (starts _ c.requires).fits)

pub met_at-requires : goal.met_at-requires
met_at-requires c =
    let f = c.args.file.now in
    let row = c.args.row.now in
    let ok = sym c.in_ok-check_sets.ensures in
    let sizes = sizes_there f c.requires (same (goal.at.met_at-requires c).Start) in
    let inside = relaxed_inside _ _ ok in (
      relaxable f c.requires c.args.action c.offset_at.ensures sizes (own_nodes row (own_from row c.args.action) c.own_nodes-own.ensures) inside c.if-actions-action.false,
      sets_few f c.requires sizes inside,
    )

pub returns-in_err-check_sets : goal.returns-in_err-check_sets
returns-in_err-check_sets c = handed _ _ c.from_residual.ensures.1 ∙ sym (asked_refused _ _ _ (ask_state c.args.file.now c.requires check_relaxed (λ x sets. x) c.args.action c.args.sets.now c.if-actions-action.false (same (goal.at.returns-in_err-check_sets c).Start) (sym c.in_err-check_sets.ensures)))

pub returns : goal.returns
returns c =
    let f = c.args.file.now in
    let row = c.args.row.now in
    let ok = sym c.in_ok-check_sets.ensures in
    c.met_at.ensures
    ∙ sym (asked_is _ _ _ (ask_is f c.requires check_relaxed (λ x sets. x) c.args.action c.args.sets.now c.if-actions-action.false (same (goal.at.returns c).Start) ok (λ x h good.
    action_in_place f c.requires c.args.action c.offset_at.ensures (sizes_there f c.requires (same (goal.at.returns c).Start)) (own_nodes row (own_from row c.args.action) c.own_nodes-own.ensures) (relaxed_inside _ _ ok) h)))
