-- `draw::dot::put_vertex` meets its contract: its name, its number, its variable and then its edges.
use mathlib.Core.Path.{ap}
use Rattle.text.specs.Text.{decimal}
use Rattle.text.specs.Append.{bytes}
use Rattle.text.specs.WriterLaws.{appends_then, appends_as}
use Rattle.words.specs.DotLaws.{arrows_text}
use Rattle.words.specs.RowLaws.{labelled_as}
use Rattle.draw.proofs.dot.put_vertex.Goals as goal

pub returns : goal.returns
returns c =
    let a = c.args in
    appends_then c.put_name.ensures
    (appends_then c.put_numbered.ensures
    (appends_then (labelled_as (bytes "\\nvariable ") (ap decimal c.byte_at-variable.ensures) c.put_numbered-2.ensures)
    (appends_then c.append.ensures (appends_as (arrows_text a.file.now a.sizes.now a.a a.i a.node c.byte_at-variable.ensures c.byte_at.ensures) c.put_arrows.ensures))))
