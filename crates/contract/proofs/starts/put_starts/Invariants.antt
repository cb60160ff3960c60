use Rattle.std.proofs.Common.{drop}
use Rattle.facts.specs.WriteRowLaws.{Going}
use Rattle.numbering.specs.InPlace.{contract_in}
use Rattle.contract.proofs.starts.put_starts.Given as goal

abbrev pub invariant-loop-step : goal.invariant-loop-step
invariant-loop-step l = Going (contract_in l.action_of l.list) (contract_in l.action_of (drop l.step-index l.list)) l.initial.out l.out l.written
