-- `task::cost_in` meets its contract: the number, the state, and then the walk by the index.
use Prim.Native.Nat.{ℕ, ◌+◌, ◌-◌}
use mathlib.Core.Path.{◌≡◌, sym, ap, ap₂, ◌∙◌}
use mathlib.Core.List.{List}
use lib.ListN.{get_or, drop}
use Rattle.facts.specs.State.{check_state}
use Rattle.taskfile.specs.Task.{walk}
use Rattle.taskfile.specs.Row.{own_from}
use Rattle.taskfile.specs.WalkInPlace.{walk_for}
use Rattle.taskfile.specs.WalkInPlaceLaws.{walk_noted}
use Rattle.taskfile.specs.MoveInPlaceLaws.{own_nodes}
use Rattle.taskfile.specs.AnswerLaws.{ask_missing, walk_is, tallied_handed}
use Rattle.taskfile.proofs.AnswerLaws.{starts, ask_state, ask_is}
use native.Mathlib.Omega.{arith}
use Rattle.task.proofs.cost_in.Goals as goal
use Rattle.task.proofs.cost_in.Goals.{Start}

-- the domain sizes are one for each variable
same : (c : goal.Start) → 1 + c.args.variables - 1 ≡ c.args.variables
same c = omega arith

pub returns-then-actions-action : goal.returns-then-actions-action
returns-then-actions-action c = sym (ask_missing c.args.file.now c.requires check_state walk c.args.action c.args.state.now c.if-actions-action.true)

pub overflow_add-last : goal.overflow_add-last
overflow_add-last c = omega (arith, (starts _ c.requires).fits)

pub slice_bounds-check_state-end : goal.slice_bounds-check_state-end
slice_bounds-check_state-end c = omega (arith, (starts _ c.requires).fits)

pub overflow_add-action : goal.overflow_add-action
overflow_add-action c = omega (arith, c.if-actions-action.false, (starts _ c.requires).actions)

pub returns-in_err-check_state : goal.returns-in_err-check_state
returns-in_err-check_state c =
    tallied_handed _ _ c.from_residual.ensures.1
    ∙ sym (ask_state c.args.file.now c.requires check_state walk c.args.action c.args.state.now c.if-actions-action.false (same (goal.at.returns-in_err-check_state c).Start) (sym c.in_err-check_state.ensures))

pub returns : goal.returns
returns c =
    let f = c.args.file.now in
    let row = c.args.row.now in
    let a = c.args.action in
    let known = c.if-actions-action.false in
    let own-walk = ap (λ (own : List ℕ). walk_for f c.offset_at-incoming.result own c.args.state.now) (own_nodes row (own_from row a) c.own_nodes-own.ensures) in
    let noted = walk_noted f (get_or row a 0) (drop (own_from row a) row) c.args.state.now (c.offset_at-incoming.ensures ∙ c.requires.fronts.incoming a known) in
    sym (ask_is f c.requires check_state walk a c.args.state.now known (same (goal.at.returns c).Start)
    (sym c.in_ok-check_state.ensures)
    (λ x h ok. ap₂ (λ (cost passed : ℕ). record { cost = cost; passed = passed }) c.walk_from.ensures.0 c.walk_from.ensures.1 ∙ own-walk ∙ noted ∙ walk_is f c.requires a c.args.state.now h ok))
