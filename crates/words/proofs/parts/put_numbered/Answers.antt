-- `words::parts::put_numbered` meets its contract: the label, and then the number.
use Rattle.text.specs.WriterLaws.{appends_then}
use Rattle.words.proofs.parts.put_numbered.Goals as goal

pub returns : goal.returns
returns c = appends_then c.append.ensures c.append_number.ensures
