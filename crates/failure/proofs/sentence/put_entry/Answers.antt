-- `failure::sentence::put_entry` meets its contract: one part straight after the other.
use Rattle.std.proofs.Common.{append_assoc}
use Rattle.text.specs.Text.{decimal}
use Rattle.text.specs.WriterLaws.{appends_then, appends_as}
use Rattle.failure.proofs.sentence.put_entry.Goals as goal

pub returns : goal.returns
returns c =
    appends_then c.put_numbered.ensures
    (appends_then c.append.ensures (appends_as (append_assoc c.args.label.now (decimal c.args.stop.number) _) (appends_then c.put_numbered-2.ensures (appends_then c.append-2.ensures c.put_failures.ensures))))
