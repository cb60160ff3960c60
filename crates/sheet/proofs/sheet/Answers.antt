-- `sheet::sheet` meets its contract: the file, then the list, then the buffer.
use Rattle.std.proofs.Common.{refl, sym, ap, ◌∙◌, ℕ, List, length}
use native.Mathlib.Omega.{arith}
use Rattle.facts.specs.AnswerLaws.{handed}
use Rattle.taskfile.specs.TaskIndexLaws.{index_file, index_ready, index_refused}
use Rattle.carry.specs.CarryFile.{answer_in, buffer_in}
use Rattle.carry.specs.AnswerLaws.{refused_in}
use Rattle.sheet.specs.SheetFile.{sheet_of}
use Rattle.sheet.specs.FileLaws.{sheet_no_file}
use Rattle.sheet.proofs.sheet.Goals as goal

pub returns-in_err-variables-clause-result_value : goal.returns-in_err-variables-clause-result_value
returns-in_err-variables-clause-result_value c =
    handed _ _ c.from_residual.ensures.1 ∙ (refused_in c.args.out.now (sheet_no_file c.args.file.now c.args.list.now (index_refused _ (sym c.in_err-variables.ensures.result_value)))).0

pub returns-in_err-variables-clause-out_after : goal.returns-in_err-variables-clause-out_after
returns-in_err-variables-clause-out_after c = (refused_in c.args.out.now (sheet_no_file c.args.file.now c.args.list.now (index_refused _ (sym c.in_err-variables.ensures.result_value)))).1

-- the counts that the index answers, of the file's task in these bytes
pub sheet_in-requires : goal.sheet_in-requires
sheet_in-requires c =
    let i = c.in_ok-variables.ensures in
    index_ready _ i.result_value refl c.bytes_of-bytes.ensures i.noted (omega (arith, c.index_in.auto.row))

pub returns-clause-result_value : goal.returns-clause-result_value
returns-clause-result_value c =
    c.sheet_in.ensures.result_value
    ∙ ap (λ (f : List ℕ). answer_in (length c.args.out.now) (sheet_of f c.args.list.now)) (index_file _ c.in_ok-variables.ensures.result_value refl c.bytes_of-bytes.ensures)

pub returns-clause-out_after : goal.returns-clause-out_after
returns-clause-out_after c =
    c.sheet_in.ensures.out_after ∙ ap (λ (f : List ℕ). buffer_in c.args.out.now (sheet_of f c.args.list.now)) (index_file _ c.in_ok-variables.ensures.result_value refl c.bytes_of-bytes.ensures)
