-- `draw::dot::put_entry` meets its contract: one part straight after the other.
use Rattle.text.specs.WriterLaws.{appends_then}
use Rattle.draw.proofs.dot.put_entry.Goals as goal

pub returns : goal.returns
returns c = appends_then c.put_numbered.ensures (appends_then c.put_numbered-2.ensures (appends_then c.put_numbered-3.ensures (appends_then c.put_name.ensures (appends_then c.put_numbered-4.ensures c.append.ensures))))
