-- `compile::compile` meets its contract: the file, and then the buffer.
use Rattle.std.proofs.Common.{refl, sym, ap, ◌∙◌, ℕ, List, length}
use native.Mathlib.Omega.{arith}
use Rattle.facts.specs.AnswerLaws.{handed}
use Rattle.facts.specs.WriteLaws.{refused_in}
use Rattle.taskfile.specs.TaskIndexLaws.{index_file, index_ready, index_refused}
use Rattle.compilation.specs.CompileFile.{compile_file, compiled_buffer}
use Rattle.compilation.specs.CompileFileLaws.{no_file}
use Rattle.compile.proofs.compile.Goals as goal

pub returns-in_err-variables-clause-result_value : goal.returns-in_err-variables-clause-result_value
returns-in_err-variables-clause-result_value c = handed _ _ c.from_residual.ensures.1 ∙ (refused_in c.args.out.now (no_file c.args.file.now (index_refused _ (sym c.in_err-variables.ensures.result_value)))).0

pub returns-in_err-variables-clause-out_after : goal.returns-in_err-variables-clause-out_after
returns-in_err-variables-clause-out_after c = (refused_in c.args.out.now (no_file c.args.file.now (index_refused _ (sym c.in_err-variables.ensures.result_value)))).1

-- the counts that the index answers, of the file's task in these bytes
pub compile_in-requires : goal.compile_in-requires
compile_in-requires c =
    let i = c.in_ok-variables.ensures in
    index_ready _ i.result_value refl c.bytes_of-bytes.ensures i.noted (omega (arith, c.index_in.auto.row))

pub returns-clause-result_value : goal.returns-clause-result_value
returns-clause-result_value c =
    c.compile_in.ensures.result_value ∙ ap (λ (f : List ℕ). compile_file f (length c.args.out.now)) (index_file _ c.in_ok-variables.ensures.result_value refl c.bytes_of-bytes.ensures)

pub returns-clause-out_after : goal.returns-clause-out_after
returns-clause-out_after c =
    c.compile_in.ensures.out_after ∙ ap (λ (f : List ℕ). compiled_buffer f c.args.out.now) (index_file _ c.in_ok-variables.ensures.result_value refl c.bytes_of-bytes.ensures)
