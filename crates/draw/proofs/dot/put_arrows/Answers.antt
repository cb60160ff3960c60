-- `draw::dot::put_arrows` meets its contract: the edge for one value after the other.
use Rattle.words.specs.RowLaws.{row_more, row_end}
use Rattle.draw.proofs.dot.put_arrows.Goals as goal

pub loop-d-preserved : goal.loop-d-preserved
loop-d-preserved c = row_more c.loop-d.invariant c.loop-d-test.true c.put_edge.ensures

pub returns : goal.returns
returns c = row_end c.loop-d.invariant c.loop-d-test.false
