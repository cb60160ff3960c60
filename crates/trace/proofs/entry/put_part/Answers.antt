-- `trace::entry::put_part` meets its contract: the label, and then the facts.
use Rattle.text.specs.WriterLaws.{appends_then}
use Rattle.trace.proofs.entry.put_part.Goals as goal

pub returns : goal.returns
returns c = appends_then c.append.ensures c.put_partial.ensures
