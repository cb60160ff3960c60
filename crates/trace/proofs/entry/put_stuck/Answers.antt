-- `trace::entry::put_stuck` meets its contract: one part straight after the other.
use Rattle.text.specs.WriterLaws.{appends_then}
use Rattle.trace.proofs.entry.put_stuck.Goals as goal

pub returns : goal.returns
returns c = appends_then c.append.ensures (appends_then c.put_part.ensures (appends_then c.append_byte.ensures c.put_failures.ensures))
