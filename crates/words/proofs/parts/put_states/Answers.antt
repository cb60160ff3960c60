-- `words::parts::put_states` meets its contract: one part straight after the other.
use Rattle.std.proofs.Common.{append_assoc}
use Rattle.text.specs.Text.{decimal}
use Rattle.text.specs.WriterLaws.{appends_then, appends_as}
use Rattle.words.proofs.parts.put_states.Goals as goal

pub returns : goal.returns
returns c = appends_as (append_assoc c.args.label.now (decimal c.args.number) _) (appends_then c.put_numbered.ensures (appends_then c.append.ensures (appends_then c.put_partial.ensures (appends_then c.append-2.ensures c.put_partial-2.ensures))))
