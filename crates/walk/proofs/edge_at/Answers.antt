-- `walk::edge_at` meets its contract: the edge for the value that the state has for the node's variable. Assumes nothing.
use mathlib.Core.Path.{refl}
use Rattle.taskfile.specs.WalkInPlaceLaws.{edge_is}
use Rattle.walk.proofs.edge_at.Goals as goal

pub returns : goal.returns
returns c =
    let a = c.args in
    let r = c.edge_for.ensures in
    let e = edge_is a.file.now a.node a.variable a.state.now c.byte_at.ensures refl r.0 r.1 in
    (e.0, e.1, r.2)
