-- `words::parts::put_variable` meets its contract: one part straight after the other.
use Rattle.text.specs.WriterLaws.{appends_then}
use Rattle.words.proofs.parts.put_variable.Goals as goal

pub returns : goal.returns
returns c = appends_then c.put_numbered.ensures (appends_then c.put_numbered-2.ensures (appends_then c.put_numbered-3.ensures c.append_byte.ensures))
