-- `steps::find::find_in_node` meets its contract: the values are counted, or the edge is looked up.
use Rattle.steps.specs.SeekLaws.{node_found, node_past}
use Rattle.steps.proofs.find.find_in_node.Goals as goal

pub returns-then-count-k : goal.returns-then-count-k
returns-then-count-k c = let x = c.args in node_past x.file.now x.sizes.now x.node x.a x.i x.k c.byte_at-variable.ensures c.byte_at-count.ensures c.if-count-k.true

pub returns : goal.returns
returns c = let x = c.args in node_found x.file.now x.sizes.now x.node x.a x.i x.k c.byte_at-variable.ensures c.byte_at-count.ensures c.if-count-k.false c.edge_for-edge.ensures.1
