-- `words::parts::put_heading` meets its contract: one part straight after the other.
use Rattle.text.specs.WriterLaws.{appends_then}
use Rattle.words.specs.Rows.{heading}
use Rattle.words.proofs.parts.put_heading.Goals as goal

pub returns : goal.returns
unfolding heading
returns c = appends_then c.put_variables.ensures (appends_then c.append.ensures (appends_then c.put_partial.ensures c.append_byte.ensures))
