-- `failure::task_failure` meets its contract: the file, the limit, and then the run.
use mathlib.Core.Path.{◌≡◌, refl, sym, ap, ◌∙◌}
use Prim.Native.Nat.{ℕ}
use mathlib.Core.List.{List}
use Rattle.std.proofs.Common.{◌+◌, ◌*◌, ◌≤◌}
use lib.ListN.{length, take, drop}
use lib.Seq.{length-take-le}
use Rattle.facts.specs.AnswerLaws.{handed}
use Rattle.facts.specs.Write.{length_in, written_in}
use Rattle.facts.specs.WriteLaws.{refused_in}
use Rattle.taskfile.specs.Index.{Ready}
use Rattle.taskfile.specs.Blank.{file_of}
use Rattle.taskfile.specs.Task.{max_list}
use Rattle.taskfile.specs.TaskIndexLaws.{index_file, index_ready, index_refused}
use Rattle.taskfile.proofs.AnswerLaws.{starts}
use Rattle.text.specs.Append.{bytes as text}
use Rattle.failure.specs.Failure.{task_failure}
use Rattle.failure.specs.InPlace.{failure_in}
use Rattle.failure.specs.FileLaws.{task_refused, task_long, task_fits}
use Rattle.failure.specs.LengthLaws.{task_failure_most}
use native.Mathlib.Omega.{arith}
use Rattle.failure.proofs.task_failure.Goals.{After-bytes_of-bytes}
use Rattle.failure.proofs.task_failure.Goals as goal

pub returns-in_err-variables-clause-result_value : goal.returns-in_err-variables-clause-result_value
returns-in_err-variables-clause-result_value c =
    handed _ _ c.from_residual.ensures.1 ∙ (refused_in c.args.out.now (task_refused c.args.file.now c.args.list.now (index_refused _ (sym c.in_err-variables.ensures.result_value)))).0

pub returns-in_err-variables-clause-out_after : goal.returns-in_err-variables-clause-out_after
returns-in_err-variables-clause-out_after c = (refused_in c.args.out.now (task_refused c.args.file.now c.args.list.now (index_refused _ (sym c.in_err-variables.ensures.result_value)))).1

-- the row has the index of the file's task in these bytes, so what fails in place is what fails in the file
module _ (c : After-bytes_of-bytes) where
  same : task_failure (file_of c.bytes_of-bytes.result.now) c.args.list.now ≡ task_failure c.args.file.now c.args.list.now
  same = ap (λ (f : List ℕ). task_failure f c.args.list.now) (index_file _ c.in_ok-variables.ensures.result_value refl c.bytes_of-bytes.ensures)

  ready : Ready c.bytes_of-bytes.result.now c.in_ok-variables.variables c.in_ok-variables.actions c.index_in.new.row
  ready = let i = c.in_ok-variables.ensures in index_ready _ i.result_value refl c.bytes_of-bytes.ensures i.noted (omega (arith, c.index_in.auto.row))

  noted : c.in_ok-variables.actions ≤ length c.index_in.new.row
  noted = omega (arith, (starts _ ready).actions, c.index_in.auto.row)

  failure : let f = c.bytes_of-bytes.result.now in let n = c.in_ok-variables.variables in length c.args.list.now ≤ max_list
      → task_failure c.args.file.now c.args.list.now ≡ failure_in f (text "action ") (take c.in_ok-variables.actions c.index_in.new.row) (1 + 2 * n) c.args.list.now (take n (drop (1 + n) f))
  failure l = sym same ∙ task_fits _ _ ready noted l

pub returns-then-list-gt-MAX_LIST-clause-result_value : goal.returns-then-list-gt-MAX_LIST-clause-result_value
returns-then-list-gt-MAX_LIST-clause-result_value c =
    let known = (goal.at.returns-then-list-gt-MAX_LIST-clause-result_value c).After-bytes_of-bytes in
    (refused_in c.args.out.now (sym (same known) ∙ task_long _ c.args.list.now (ready known) c.if-list-gt-MAX_LIST.true)).0

pub returns-then-list-gt-MAX_LIST-clause-out_after : goal.returns-then-list-gt-MAX_LIST-clause-out_after
returns-then-list-gt-MAX_LIST-clause-out_after c =
    let known = (goal.at.returns-then-list-gt-MAX_LIST-clause-out_after c).After-bytes_of-bytes in
    (refused_in c.args.out.now (sym (same known) ∙ task_long _ c.args.list.now (ready known) c.if-list-gt-MAX_LIST.true)).1

pub slice_bounds-row-end : goal.slice_bounds-row-end
slice_bounds-row-end c = noted (goal.at.slice_bounds-row-end c).After-bytes_of-bytes

pub slice_bounds-failure_in-end : goal.slice_bounds-failure_in-end
slice_bounds-failure_in-end c = sym (length-take-le _ _ (noted (goal.at.slice_bounds-failure_in-end c).After-bytes_of-bytes))

pub failure_in-requires-clause-variables_le_max_variables : goal.failure_in-requires-clause-variables_le_max_variables
failure_in-requires-clause-variables_le_max_variables c =
    let s = starts _ (ready (goal.at.failure_in-requires-clause-variables_le_max_variables c).After-bytes_of-bytes) in
    (omega (arith, s.variables), s.fits)

pub failure_in-requires-clause-brief : goal.failure_in-requires-clause-brief
failure_in-requires-clause-brief c =
    let is = failure (goal.at.failure_in-requires-clause-brief c).After-bytes_of-bytes c.if-list-gt-MAX_LIST.false in
    record { most = λ e. omega (arith, task_failure_most _ _ (is ∙ e)) }

pub returns-clause-result_value : goal.returns-clause-result_value
returns-clause-result_value c =
    c.failure_in.ensures.result_value ∙ ap (length_in _) (sym (failure (goal.at.returns-clause-result_value c).After-bytes_of-bytes c.if-list-gt-MAX_LIST.false))

pub returns-clause-out_after : goal.returns-clause-out_after
returns-clause-out_after c =
    c.failure_in.ensures.out_after ∙ ap (written_in _) (sym (failure (goal.at.returns-clause-out_after c).After-bytes_of-bytes c.if-list-gt-MAX_LIST.false))
