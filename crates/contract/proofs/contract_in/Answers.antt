-- `contract::contract_in` meets its contract: a list that is followed is carried, and any other is run on the written file.
use Rattle.std.proofs.Common.{sym, ap, ℕ, List, ◌++◌, drop, length-take-le, arith}
use Rattle.carry.specs.AnswerLaws.{short_in, wrote_in}
use Rattle.numbering.specs.ExpandLaws.{copied_front}
use Rattle.contract.proofs.contract_in.Goals as goal

pub returns-then-short-clause-result_value : goal.returns-then-short-clause-result_value
returns-then-short-clause-result_value c = let h = c.in-Some.ensures in (short_in h.1 c.args.out.now (sym (length-take-le _ _ h.0)) c.if-short.true).0

pub returns-then-short-clause-out_after : goal.returns-then-short-clause-out_after
returns-then-short-clause-out_after c = let h = c.in-Some.ensures in (short_in h.1 c.args.out.now (sym (length-take-le _ _ h.0)) c.if-short.true).1

pub returns-clause-result_value : goal.returns-clause-result_value
returns-clause-result_value c =
    let h = c.in-Some.ensures in
    let copied = copied_front c.follow_plan-followed.new.plan h.0 (ap (λ (front : List ℕ). front ++ drop c.in-Some.count c.args.out.now) c.copy_from_slice.ensures.after) in
    (wrote_in h.1 (omega (arith, length-take-le _ _ h.0, c.if-short.false)) copied).0

pub returns-clause-out_after : goal.returns-clause-out_after
returns-clause-out_after c =
    let h = c.in-Some.ensures in
    let copied = copied_front c.follow_plan-followed.new.plan h.0 (ap (λ (front : List ℕ). front ++ drop c.in-Some.count c.args.out.now) c.copy_from_slice.ensures.after) in
    (wrote_in h.1 (omega (arith, length-take-le _ _ h.0, c.if-short.false)) copied).1
