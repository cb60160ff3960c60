-- `draw::dot::put_name` meets its contract: one part straight after the other.
use Rattle.text.specs.WriterLaws.{appends_then}
use Rattle.draw.proofs.dot.put_name.Goals as goal

pub returns : goal.returns
returns c = appends_then c.append.ensures (appends_then c.put_numbered.ensures c.put_numbered-2.ensures)
