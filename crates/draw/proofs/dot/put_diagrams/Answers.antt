-- `draw::dot::put_diagrams` meets its contract: one action after the other.
use mathlib.Core.Path.{ap}
use Rattle.text.specs.WriterLaws.{appends_as}
use Rattle.words.specs.Dot.{dot_action}
use Rattle.words.specs.RowLaws.{row_more, row_end, action_as}
use Rattle.draw.proofs.dot.put_diagrams.Goals as goal

pub loop-a-preserved : goal.loop-a-preserved
loop-a-preserved c =
    let x = c.args in
    let a = c.loop-a.a in
    row_more c.loop-a.invariant c.loop-a-test.true (appends_as (ap (dot_action a) (action_as x.file.now x.sizes.now x.row.now a c.offset_at.ensures c.own_nodes-own.ensures)) c.put_diagram.ensures)

pub returns : goal.returns
returns c = row_end c.loop-a.invariant c.loop-a-test.false
