-- `describe::task::put_cost` meets its contract: one part straight after the other.
use Rattle.text.specs.WriterLaws.{appends_then, appends_as}
use Rattle.words.specs.ShowLaws.{first_target, nodes_text}
use Rattle.describe.proofs.task.put_cost.Goals as goal

pub returns : goal.returns
returns c =
    let a = c.args in
    appends_then c.put_numbered.ensures (appends_then c.append.ensures (appends_then (appends_as (first_target a.file.now a.sizes.now a.nodes.now a.m) c.put_target.ensures) (appends_then c.append_byte.ensures
    (appends_as (nodes_text a.file.now a.sizes.now a.nodes.now a.m) c.put_nodes.ensures))))
