-- `report::put_around` meets its contract: one part straight after the other.
use Rattle.text.specs.WriterLaws.{appends_then}
use Rattle.report.proofs.put_around.Goals as goal

pub returns : goal.returns
returns c = appends_then c.append.ensures (appends_then c.append_number.ensures c.append-2.ensures)
