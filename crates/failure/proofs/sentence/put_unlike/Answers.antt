-- `failure::sentence::put_unlike` meets its contract: nothing where the values are the same, and otherwise one part straight after the other.
use Rattle.text.specs.WriterLaws.{appends_then, appends_as}
use Rattle.failure.specs.FailureLaws.{unlike_other}
use Rattle.failure.proofs.sentence.put_unlike.Goals as goal

pub returns : goal.returns
returns c =
    let a = c.args in
    appends_as (unlike_other a.v a.d a.found c.if-d-found.false)
    (appends_then c.put_numbered.ensures (appends_then c.put_numbered-2.ensures (appends_then c.put_numbered-3.ensures (appends_then c.put_numbered-4.ensures c.append_byte.ensures))))
