-- `trace::trace_compiled` meets its contract: what compiling wrote is the probe file of the file's task.
use Prim.Native.Nat.{◌≤◌}
use mathlib.Core.Path.{sym, ◌∙◌}
use lib.ListN.{length, replicate}
use lib.Seq.{length-take-le}
use Rattle.facts.specs.AnswerLaws.{handed}
use Rattle.facts.specs.WriteLaws.{refused_in}
use Rattle.taskfile.specs.Task.{max_written}
use Rattle.taskfile.specs.Blank.{file_of}
use Rattle.compilation.specs.ProgramLaws.{answer_fits}
use Rattle.carry.specs.SameSumLaws.{written_from}
use Rattle.trace.specs.FileLaws.{trace_uncompiled}
use native.Mathlib.Omega.{arith}
use Rattle.trace.proofs.trace_compiled.Goals.{In_ok-length}
use Rattle.trace.proofs.trace_compiled.Goals as goal

pub returns-in_err-length-clause-result_value : goal.returns-in_err-length-clause-result_value
returns-in_err-length-clause-result_value c =
    handed _ _ c.from_residual.ensures.1 ∙ (refused_in c.args.out.now (trace_uncompiled c.args.states (file_of c.args.file.now) c.args.list.now (sym c.in_err-length.ensures.result_value))).0

pub returns-in_err-length-clause-out_after : goal.returns-in_err-length-clause-out_after
returns-in_err-length-clause-out_after c = (refused_in c.args.out.now (trace_uncompiled c.args.states (file_of c.args.file.now) c.args.list.now (sym c.in_err-length.ensures.result_value))).1

fits : (c : In_ok-length) → c.in_ok-length.length ≤ length c.compile_in.new.out
fits c = omega (arith, answer_fits _ _ (sym c.in_ok-length.ensures.result_value))

pub slice_bounds-written-end : goal.slice_bounds-written-end
slice_bounds-written-end c = fits c

pub slice_bounds-trace_written-end : goal.slice_bounds-trace_written-end
slice_bounds-trace_written-end c = sym (length-take-le _ _ (fits (goal.at.slice_bounds-trace_written-end c).In_ok-length))

pub trace_written-requires-clause-written : goal.trace_written-requires-clause-written
trace_written-requires-clause-written c =
    written_from (file_of c.args.file.now) c.requires.stated.bytes (replicate max_written 0) (sym c.in_ok-length.ensures.result_value) c.in_ok-length.ensures.out_after
