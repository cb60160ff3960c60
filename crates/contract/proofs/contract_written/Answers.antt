-- `contract::contract_written` meets its contract: the list is run on the file that compiling wrote, and one law says each way.
use Rattle.std.proofs.Common.{◌≤◌, sym, ◌∙◌, length, take, replicate, length-take-le, arith}
use Rattle.facts.specs.AnswerLaws.{handed}
use Rattle.facts.specs.BytesLaws.{bytes_each}
use Rattle.taskfile.specs.Blank.{file_of}
use Rattle.taskfile.specs.BlankLaws.{file_bytes}
use Rattle.compilation.specs.ProgramLaws.{answer_fits}
use Rattle.carry.specs.AnswerLaws.{refused_in}
use Rattle.carry.specs.SameSumLaws.{WrittenFrom, written_from}
use Rattle.contract.specs.ContractLaws.{contract_refused, contract_blocked, contract_ran}
use Rattle.contract.proofs.contract_written.Goals as goal
use Rattle.contract.proofs.contract_written.Goals.{In_ok-length}

fits : (c : goal.In_ok-length) → c.in_ok-length.length ≤ length c.compile_in.new.out
fits c = omega (arith, answer_fits _ _ (sym c.in_ok-length.ensures.result_value), c.compile_in.auto.out)

-- what was written is the probe file of the file's task
from : (c : goal.In_ok-length) → WrittenFrom (file_of c.args.file.now) (take c.in_ok-length.length c.compile_in.new.out)
from c =
    let f = c.args.file.now in
    written_from (file_of f) (file_bytes f (bytes_each f (λ i. (c.type_inv.file i).fits))) (replicate 13846 0) (sym c.in_ok-length.ensures.result_value) c.in_ok-length.ensures.out_after

pub returns-in_err-length-clause-result_value : goal.returns-in_err-length-clause-result_value
returns-in_err-length-clause-result_value c = handed _ _ c.from_residual.ensures.1 ∙ (refused_in c.args.out.now (contract_refused _ c.args.list.now (sym c.in_err-length.ensures.result_value))).0

pub returns-in_err-length-clause-out_after : goal.returns-in_err-length-clause-out_after
returns-in_err-length-clause-out_after c = (refused_in c.args.out.now (contract_refused _ c.args.list.now (sym c.in_err-length.ensures.result_value))).1

pub slice_bounds-written-end : goal.slice_bounds-written-end
slice_bounds-written-end c = fits c

pub slice_bounds-run-end : goal.slice_bounds-run-end
slice_bounds-run-end c = sym (length-take-le _ _ (fits (goal.at.slice_bounds-run-end c).In_ok-length))

pub returns-in_err-sum-clause-result_value : goal.returns-in_err-sum-clause-result_value
returns-in_err-sum-clause-result_value c =
    handed _ _ c.from_residual-in_err-sum.ensures.1
    ∙ (refused_in c.args.out.now (contract_blocked (from (goal.at.returns-in_err-sum-clause-result_value c).In_ok-length) c.args.list.now (sym c.in_err-sum.ensures))).0

pub returns-in_err-sum-clause-out_after : goal.returns-in_err-sum-clause-out_after
returns-in_err-sum-clause-out_after c =
    (refused_in c.args.out.now (contract_blocked (from (goal.at.returns-in_err-sum-clause-out_after c).In_ok-length) c.args.list.now (sym c.in_err-sum.ensures))).1

pub contract_plan-requires-clause-plan : goal.contract_plan-requires-clause-plan
contract_plan-requires-clause-plan c = contract_ran (from (goal.at.contract_plan-requires-clause-plan c).In_ok-length) c.args.list.now (sym c.in_ok-sum.ensures)
