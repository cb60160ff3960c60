-- `describe::task::put_edges` meets its contract: the edge for one value after the other.
use Rattle.words.specs.ShowLaws.{edge_as}
use Rattle.words.specs.Rows.{edge_for}
use Rattle.words.specs.RowLaws.{row_more, row_end}
use Rattle.describe.proofs.task.put_edges.Goals as goal

pub loop-d-preserved : goal.loop-d-preserved
loop-d-preserved c = let a = c.args in row_more c.loop-d.invariant c.loop-d-test.true (edge_as a.m c.loop-d.d (edge_for a.file.now a.node c.loop-d.d) c.edge_for-edge.ensures.0 c.edge_for-edge.ensures.1 c.put_edge.ensures)

pub returns : goal.returns
returns c = row_end c.loop-d.invariant c.loop-d-test.false
