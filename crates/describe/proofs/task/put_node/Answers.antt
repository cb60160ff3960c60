-- `describe::task::put_node` meets its contract: its number, its variable and then its edges.
use mathlib.Core.Path.{ap}
use Rattle.text.specs.Text.{decimal}
use Rattle.text.specs.Append.{bytes}
use Rattle.text.specs.WriterLaws.{appends_then, appends_as}
use Rattle.words.specs.Show.{edge_text}
use Rattle.words.specs.RowLaws.{labelled_as, edges_text}
use Rattle.describe.proofs.task.put_node.Goals as goal

pub returns : goal.returns
returns c =
    let a = c.args in
    appends_then c.put_numbered.ensures (appends_then (labelled_as (bytes " tests variable ") (ap decimal c.byte_at-variable.ensures) c.put_numbered-2.ensures) (appends_then c.append_byte.ensures
    (appends_as (edges_text a.file.now a.sizes.now (edge_text a.m) a.node c.byte_at-variable.ensures c.byte_at.ensures) c.put_edges.ensures)))
