-- `draw::dot::put_diagram` meets its contract: the entry, the nodes, the terminal.
use mathlib.Core.Path.{ap}
use Rattle.text.specs.Append.{bytes}
use Rattle.text.specs.WriterLaws.{appends_then, appends_as}
use Rattle.words.specs.Dot.{dot_entry}
use Rattle.words.specs.DotLaws.{vertices_text, terminal_as}
use Rattle.draw.proofs.dot.put_diagram.Goals as goal

pub returns : goal.returns
returns c =
    let x = c.args in
    let count = c.diagram_at-diagram.ensures.1 in
    appends_then (appends_as (ap (dot_entry x.a) c.diagram_at-diagram.ensures.0) c.put_entry.ensures)
    (appends_then (appends_as (vertices_text x.file.now x.sizes.now x.nodes.now x.a count) c.put_vertices.ensures)
    (appends_then (terminal_as x.file.now x.sizes.now x.nodes.now x.a count (bytes "  ") c.put_name.ensures) c.append.ensures))
