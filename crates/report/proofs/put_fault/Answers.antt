-- `report::put_fault` meets its contract: one part straight after the other.
use Rattle.text.specs.WriterLaws.{appends_then}
use Rattle.report.proofs.put_fault.Goals as goal

pub returns : goal.returns
returns c = appends_then c.append.ensures c.put_why.ensures
