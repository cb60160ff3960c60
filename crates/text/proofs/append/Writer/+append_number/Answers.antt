-- `Writer::append_number` meets its contract: the digits of a tenth, and then the last one.
use Rattle.text.specs.WriterLaws.{digits_one, digits_more}
use Rattle.text.proofs.append.Writer.+append_number.Goals as goal

pub returns-then-n-lt10 : goal.returns-then-n-lt10
returns-then-n-lt10 t c = digits_one c.if-n-lt10.true c.append_byte.ensures

pub returns : goal.returns
returns t c = digits_more c.if-n-lt10.false c.append_number.ensures c.append_byte-2.ensures
