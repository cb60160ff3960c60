-- `walk::walk_from` meets its contract: the incoming edge and those of at most 255 nodes weigh two bytes each. Assumes nothing.
use Rattle.taskfile.specs.WalkInPlaceLaws.{cost_for_lem, passed_for}
use native.Mathlib.Omega.{arith}
use Rattle.walk.proofs.walk_from.Goals as goal

pub returns : goal.returns
returns c =
    let a = c.args in
    let f = a.file.now in
    let d = c.diagram_from-diagram.ensures in
    let y = c.way_up-way.ensures in (
      cost_for_lem f a.incoming a.nodes.now a.state.now d.0 d.1 y.0,
      passed_for f a.incoming a.nodes.now a.state.now d.0 d.1 y.1,
      omega (arith, d.2, d.3, y.2),
      omega (arith, d.3, y.3),
    )
