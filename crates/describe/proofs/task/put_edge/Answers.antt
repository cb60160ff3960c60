-- `describe::task::put_edge` meets its contract: one part straight after the other.
use Rattle.text.specs.WriterLaws.{appends_then}
use Rattle.describe.proofs.task.put_edge.Goals as goal

pub returns : goal.returns
returns c = appends_then c.put_numbered.ensures (appends_then c.put_numbered-2.ensures (appends_then c.append.ensures (appends_then c.put_target.ensures c.append_byte.ensures)))
