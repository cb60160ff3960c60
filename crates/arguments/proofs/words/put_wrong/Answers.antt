-- `arguments::words::put_wrong` meets its contract: one part straight after the other.
use Rattle.text.specs.WriterLaws.{appends_then}
use Rattle.arguments.proofs.words.put_wrong.Goals as goal

pub returns : goal.returns
returns c = appends_then c.append.ensures (appends_then c.put_what.ensures (appends_then c.append-2.ensures (appends_then c.append-3.ensures c.append-4.ensures)))
