-- `report::put_place` meets its contract: one part straight after the other.
use Rattle.text.specs.WriterLaws.{appends_then}
use Rattle.report.proofs.put_place.Goals as goal

pub returns : goal.returns
returns c = appends_then c.put_around.ensures c.put_around-2.ensures
