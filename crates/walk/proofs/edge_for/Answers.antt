-- `walk::edge_for` meets its contract: the node's edges stand in the order of the values, three bytes each. Assumes nothing.
use Prim.Native.Nat.{zero-le}
use Rattle.taskfile.specs.WalkInPlaceLaws.{edge_none}
use Rattle.walk.proofs.edge_for.Goals as goal

pub returns-then-file-node : goal.returns-then-file-node
returns-then-file-node c =
    let a = c.args in
    let e = edge_none a.file.now a.node a.value c.if-file-node.true in
    (e.0, e.1, zero-le)
