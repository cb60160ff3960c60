-- `contract::starts::put_starts` meets its contract: what is written and what is left are together the actions started.
use Rattle.std.proofs.Common.{◌∙◌, arith}
use Rattle.facts.specs.WriteRowLaws.{going_start}
use Rattle.carry.specs.AnswerLaws.{entry_more}
use Rattle.contract.specs.ContractLaws.{turn_start}
use Rattle.contract.proofs.starts.put_starts.Goals as goal

pub loop-step-init : goal.loop-step-init
loop-step-init c = let a = c.args in going_start _ a.out.now

pub loop-step-preserved : goal.loop-step-preserved
loop-step-preserved c =
    let a = c.args in
    let start = c.in-Some.ensures in
    let next = turn_start a.action_of.now a.list.now c.loop-step.step-index c.loop-step-test.true c.byte_at.ensures (λ none. omega (arith, none, start.0)) in
    rw (c.from.ensures ∙ start.1) (entry_more c.loop-step.invariant c.requires next)
