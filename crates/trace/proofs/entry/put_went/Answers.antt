-- `trace::entry::put_went` meets its contract: one part straight after the other.
use Rattle.text.specs.WriterLaws.{appends_then}
use Rattle.trace.proofs.entry.put_went.Goals as goal

pub returns : goal.returns
returns c =
    appends_then c.put_numbered.ensures
    (appends_then c.put_numbered-2.ensures (appends_then c.put_part.ensures (appends_then c.put_part-2.ensures (appends_then c.append_byte.ensures c.put_state.ensures))))
