-- `index::pass::index_actions` meets its contract: count, actions and end, each refusal where it stands.
use Prim.Native.Nat.{◌+◌, ◌-◌}
use mathlib.Core.Path.{refl, sym, ◌∙◌}
use lib.ListN.{drop, length-drop}
use lib.Seq.{length-take-le}
use Rattle.facts.specs.AnswerLaws.{handed}
use Rattle.facts.specs.HeadLaws.{headed_fits}
use Rattle.taskfile.specs.Task.{max_variables, max_values}
use Rattle.taskfile.specs.TaskIndexLaws.{count_fits, task_no_count, task_no_actions, task_trailing, task_good, located, noted_good}
use native.Mathlib.Omega.{arith}
use Rattle.index.proofs.pass.index_actions.Goals as goal

pub overflow_add-last : goal.overflow_add-last
overflow_add-last c = omega (arith, headed_fits _ max_variables max_values c.requires.0)

pub overflow_add-at : goal.overflow_add-at
overflow_add-at c = omega (arith, count_fits _ c.requires.0 (sym c.in_ok-actions.ensures))

pub slice_bounds-actions_end-end : goal.slice_bounds-actions_end-end
slice_bounds-actions_end-end c = omega (arith, headed_fits _ max_variables max_values c.requires.0)

pub actions_end-requires : goal.actions_end-requires
actions_end-requires c =
    let few = (count_fits _ c.requires.0 (sym c.in_ok-actions.ensures)).0 in
    let head = headed_fits _ max_variables max_values c.requires.0 in
    let sizes = length-take-le (1 + c.args.variables - 1) (drop 1 c.args.file.now) (simp length-drop (omega (arith, head.1, head.2))) in
    (few, c.requires.1, omega (arith, head.0, sizes))

pub returns-in_err-actions-clause-counted : goal.returns-in_err-actions-clause-counted
returns-in_err-actions-clause-counted c = handed _ _ c.from_residual.ensures.1 ∙ sym (task_no_count c.args.file.now c.requires.0 (sym c.in_err-actions.ensures))

pub returns-in_err-end-clause-counted : goal.returns-in_err-end-clause-counted
returns-in_err-end-clause-counted c =
    handed _ _ c.from_residual-in_err-end.ensures.1 ∙ sym (task_no_actions c.args.file.now c.requires.0 (sym c.in_ok-actions.ensures) (omega arith) (sym c.in_err-end.ensures.result_value))

pub returns-then-end-file-clause-counted : goal.returns-then-end-file-clause-counted
returns-then-end-file-clause-counted c = sym (task_trailing c.args.file.now c.requires.0 (sym c.in_ok-actions.ensures) (omega arith) (sym c.in_ok-end.ensures.result_value) c.if-end-file.true)

pub returns-clause-counted : goal.returns-clause-counted
returns-clause-counted c = sym (task_good c.args.file.now c.requires.0 (sym c.in_ok-actions.ensures) (omega arith) (sym c.in_ok-end.ensures.result_value) c.if-end-file.false)

pub returns-clause-noted : goal.returns-clause-noted
returns-clause-noted c = noted_good c.args.file.now (located c.args.file.now c.requires.0 (sym c.in_ok-actions.ensures) (omega arith) c.in_ok-end.ensures.listed) (c.in_ok-end.ensures.by_index _ refl)
