use lib.ListN.{drop}
use Rattle.text.specs.WriterLaws.{Adding}
use Rattle.report.specs.Report.{values_text}
use Rattle.report.proofs.put_values.Given as goal

abbrev pub invariant-loop-value : goal.invariant-loop-value
invariant-loop-value l = Adding (values_text l.state) (values_text (drop l.value-index l.state)) l.initial.out l.out
