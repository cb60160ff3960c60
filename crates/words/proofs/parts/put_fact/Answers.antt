-- `words::parts::put_fact` meets its contract: the bit, whether there is a value, and then the fact.
use Rattle.text.specs.WriterLaws.{appends_as, appends_then}
use Rattle.words.specs.WordLaws.{bit_fact}
use Rattle.words.proofs.parts.put_fact.Goals as goal

pub returns : goal.returns
returns c =
    let a = c.args in
    appends_as (bit_fact a.file.now a.v a.bit a.value c.if-bit-eq0.false c.if-file-value.false) (appends_then c.put_numbered.ensures c.put_numbered-2.ensures)
