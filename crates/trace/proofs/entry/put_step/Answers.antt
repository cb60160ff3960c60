-- `trace::entry::put_step` meets its contract: one part straight after the other.
use Rattle.text.specs.WriterLaws.{appends_then}
use Rattle.trace.proofs.entry.put_step.Goals as goal

pub returns : goal.returns
returns c = appends_then c.append_number.ensures (appends_then c.append_byte.ensures c.put_step_name.ensures)
