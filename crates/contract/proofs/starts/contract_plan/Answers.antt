-- `contract::starts::contract_plan` meets its contract: the starts of an accepted file are noted, and one law says each way.
use Rattle.std.proofs.Common.{sym, ◌∙◌, arith}
use Rattle.facts.specs.AnswerLaws.{handed}
use Rattle.carry.specs.AnswerLaws.{refused_in, short_in, wrote_in}
use Rattle.contract.specs.ContractLaws.{contract_many, contract_carried, contract_needed}
use Rattle.contract.proofs.starts.contract_plan.Goals as goal

pub returns-in_err-needed-clause-result_value : goal.returns-in_err-needed-clause-result_value
returns-in_err-needed-clause-result_value c = handed _ _ c.from_residual.ensures.1 ∙ (refused_in c.args.out.now (contract_many c.requires.plan c.note_starts.ensures (sym c.in_err-needed.ensures))).0

pub returns-in_err-needed-clause-out_after : goal.returns-in_err-needed-clause-out_after
returns-in_err-needed-clause-out_after c = (refused_in c.args.out.now (contract_many c.requires.plan c.note_starts.ensures (sym c.in_err-needed.ensures))).1

pub returns-then-short-clause-result_value : goal.returns-then-short-clause-result_value
returns-then-short-clause-result_value c =
    let noted = c.note_starts.ensures in
    let h = sym c.in_ok-needed.ensures in
    (short_in (contract_carried c.requires.plan noted h) c.args.out.now (contract_needed c.requires.plan noted h) c.if-short.true).0

pub returns-then-short-clause-out_after : goal.returns-then-short-clause-out_after
returns-then-short-clause-out_after c =
    let noted = c.note_starts.ensures in
    let h = sym c.in_ok-needed.ensures in
    (short_in (contract_carried c.requires.plan noted h) c.args.out.now (contract_needed c.requires.plan noted h) c.if-short.true).1

pub put_starts-requires : goal.put_starts-requires
put_starts-requires c = omega (arith, contract_needed c.requires.plan c.note_starts.ensures (sym c.in_ok-needed.ensures), c.if-short.false)

pub returns-clause-result_value : goal.returns-clause-result_value
returns-clause-result_value c =
    let noted = c.note_starts.ensures in
    let h = sym c.in_ok-needed.ensures in
    (wrote_in (contract_carried c.requires.plan noted h) (omega (arith, contract_needed c.requires.plan noted h, c.if-short.false)) c.put_starts.ensures).0

pub returns-clause-out_after : goal.returns-clause-out_after
returns-clause-out_after c =
    let noted = c.note_starts.ensures in
    let h = sym c.in_ok-needed.ensures in
    (wrote_in (contract_carried c.requires.plan noted h) (omega (arith, contract_needed c.requires.plan noted h, c.if-short.false)) c.put_starts.ensures).1
