-- `describe::task::put_actions` meets its contract: one action after the other.
use mathlib.Core.Path.{ap}
use lib.ListN.{length}
use Rattle.text.specs.WriterLaws.{appends_as}
use Rattle.words.specs.Show.{action_text}
use Rattle.words.specs.RowLaws.{row_more, row_end, action_as}
use Rattle.describe.proofs.task.put_actions.Goals as goal

pub loop-a-preserved : goal.loop-a-preserved
loop-a-preserved c =
    let x = c.args in
    let a = c.loop-a.a in
    row_more c.loop-a.invariant c.loop-a-test.true (appends_as (ap (action_text (length x.sizes.now) a) (action_as x.file.now x.sizes.now x.row.now a c.offset_at.ensures c.own_nodes-own.ensures)) c.put_action.ensures)

pub returns : goal.returns
returns c = row_end c.loop-a.invariant c.loop-a-test.false
