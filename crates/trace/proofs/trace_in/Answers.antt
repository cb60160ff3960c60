-- `trace::trace_in` meets its contract: the limit, the numbers that no step has, and then the trace.
use mathlib.Core.Path.{sym, ◌∙◌}
use Rattle.facts.specs.AnswerLaws.{handed}
use Rattle.facts.specs.BytesLaws.{bytes_each}
use Rattle.facts.specs.WriteLaws.{refused_in}
use Rattle.taskfile.specs.BlankLaws.{file_bytes}
use Rattle.taskfile.specs.AnswerLaws.{there}
use Rattle.words.specs.DescribeLaws.{head_fits, sizes_in_lem}
use Rattle.steps.specs.StepsLaws.{names_are}
use Rattle.trace.specs.FileLaws.{trace_long, trace_missing}
use native.Mathlib.Omega.{arith}
use Rattle.trace.proofs.trace_in.Goals as goal

pub returns-then-list-gt-MAX_LIST-clause-result_value : goal.returns-then-list-gt-MAX_LIST-clause-result_value
returns-then-list-gt-MAX_LIST-clause-result_value c = (refused_in c.args.out.now (trace_long c.args.states c.args.file.now c.args.list.now c.requires c.if-list-gt-MAX_LIST.true)).0

pub returns-then-list-gt-MAX_LIST-clause-out_after : goal.returns-then-list-gt-MAX_LIST-clause-out_after
returns-then-list-gt-MAX_LIST-clause-out_after c = (refused_in c.args.out.now (trace_long c.args.states c.args.file.now c.args.list.now c.requires c.if-list-gt-MAX_LIST.true)).1

pub overflow_add-last : goal.overflow_add-last
overflow_add-last c = omega (arith, head_fits _ c.requires)

pub slice_bounds-sizes-end : goal.slice_bounds-sizes-end
slice_bounds-sizes-end c = omega (arith, head_fits _ c.requires)

pub returns-in_err-check_steps-clause-result_value : goal.returns-in_err-check_steps-clause-result_value
returns-in_err-check_steps-clause-result_value c =
    let f = c.args.file.now in
    handed _ _ c.from_residual.ensures.1
    ∙ (refused_in c.args.out.now (trace_missing c.args.states f c.args.list.now c.requires c.if-list-gt-MAX_LIST.false (names_are f c.requires (sizes_in_lem f c.requires)) (sym c.in_err-check_steps.ensures))).0

pub returns-in_err-check_steps-clause-out_after : goal.returns-in_err-check_steps-clause-out_after
returns-in_err-check_steps-clause-out_after c =
    let f = c.args.file.now in
    (refused_in c.args.out.now (trace_missing c.args.states f c.args.list.now c.requires c.if-list-gt-MAX_LIST.false (names_are f c.requires (sizes_in_lem f c.requires)) (sym c.in_err-check_steps.ensures))).1

pub trace_compiled-requires-clause-stated : goal.trace_compiled-requires-clause-stated
trace_compiled-requires-clause-stated c =
    let f = c.args.file.now in
    record {
      bytes = file_bytes f (bytes_each f (λ i. (c.type_inv.file i).fits));
      t = (there f c.requires).task;
      task = (there f c.requires).reads;
      same = names_are f c.requires (sizes_in_lem f c.requires);
      few = c.if-list-gt-MAX_LIST.false;
      u = tt;
      known = sym c.in_ok-check_steps.ensures;
    }
