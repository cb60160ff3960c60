-- `trace::trace` meets its contract: the index, and then the trace of the task in these bytes.
use Prim.Native.Nat.{ℕ}
use mathlib.Core.Path.{refl, sym, ap, ◌∙◌}
use mathlib.Core.List.{List}
use lib.ListN.{length}
use Rattle.facts.specs.AnswerLaws.{handed}
use Rattle.facts.specs.Write.{length_in, written_in}
use Rattle.facts.specs.WriteLaws.{refused_in}
use Rattle.taskfile.specs.TaskIndexLaws.{index_file, index_ready, index_refused}
use Rattle.trace.specs.TraceFile.{traced}
use Rattle.trace.specs.FileLaws.{trace_refused}
use native.Mathlib.Omega.{arith}
use Rattle.trace.proofs.trace.Goals as goal

pub returns-in_err-variables-clause-result_value : goal.returns-in_err-variables-clause-result_value
returns-in_err-variables-clause-result_value c =
    handed _ _ c.from_residual.ensures.1 ∙ (refused_in c.args.out.now (trace_refused c.args.states c.args.file.now c.args.list.now (index_refused _ (sym c.in_err-variables.ensures.result_value)))).0

pub returns-in_err-variables-clause-out_after : goal.returns-in_err-variables-clause-out_after
returns-in_err-variables-clause-out_after c = (refused_in c.args.out.now (trace_refused c.args.states c.args.file.now c.args.list.now (index_refused _ (sym c.in_err-variables.ensures.result_value)))).1

-- the counts that the index answers, of the file's task in these bytes
pub trace_in-requires : goal.trace_in-requires
trace_in-requires c = let i = c.in_ok-variables.ensures in index_ready _ i.result_value refl c.bytes_of-bytes.ensures i.noted (omega (arith, c.index_in.auto.row))

pub returns-clause-result_value : goal.returns-clause-result_value
returns-clause-result_value c =
    c.trace_in.ensures.result_value
    ∙ ap (λ (f : List ℕ). length_in (length c.args.out.now) (traced c.args.states f c.args.list.now)) (index_file _ c.in_ok-variables.ensures.result_value refl c.bytes_of-bytes.ensures)

pub returns-clause-out_after : goal.returns-clause-out_after
returns-clause-out_after c =
    c.trace_in.ensures.out_after ∙ ap (λ (f : List ℕ). written_in c.args.out.now (traced c.args.states f c.args.list.now)) (index_file _ c.in_ok-variables.ensures.result_value refl c.bytes_of-bytes.ensures)
