-- `draw::dot::put_others` meets its contract: one value after the other.
use Rattle.words.specs.RowLaws.{row_more, row_end}
use Rattle.draw.proofs.dot.put_others.Goals as goal

pub loop-j-preserved : goal.loop-j-preserved
loop-j-preserved c = row_more c.loop-j.invariant c.loop-j-test.true c.put_other.ensures

pub returns : goal.returns
returns c = row_end c.loop-j.invariant c.loop-j-test.false
