-- `draw::dot::put_edge` meets its contract: nothing where an edge like it came before, else the arrow, one part straight after the other.
use mathlib.Core.Path.{ap}
use Rattle.text.specs.Text.{decimal}
use Rattle.text.specs.Append.{bytes}
use Rattle.text.specs.WriterLaws.{appends_then, appends_none, appends_as}
use Rattle.words.specs.Dot.{node_name}
use Rattle.words.specs.DotLaws.{edge_came, edge_first}
use Rattle.words.specs.RowLaws.{labelled_as}
use Rattle.draw.proofs.dot.put_edge.Goals as goal

pub returns-then-came_before : goal.returns-then-came_before
returns-then-came_before c =
    let a = c.args in
    appends_as (edge_came a.file.now a.node a.a a.i c.requires c.came_before.ensures c.if-came_before.true) (appends_none _)

pub returns : goal.returns
returns c =
    let a = c.args in
    appends_as (edge_first a.file.now a.node a.a a.i c.requires c.came_before.ensures c.if-came_before.false)
    (appends_then c.put_name.ensures
    (appends_then (labelled_as (bytes " -> ") (ap (node_name a.a) c.edge_for-edge.ensures.0) c.put_name-2.ensures)
    (appends_then c.put_numbered.ensures
    (appends_then c.put_others.ensures (appends_then (labelled_as (bytes ": +") (ap decimal c.edge_for-edge.ensures.1) c.put_numbered-2.ensures) c.append.ensures)))))
