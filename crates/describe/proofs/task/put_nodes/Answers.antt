-- `describe::task::put_nodes` meets its contract: one node after the other.
use Prim.Native.Nat.{ℕ, ◌+◌}
use mathlib.Core.Path.{ap}
use Rattle.taskfile.specs.PartsInPlace.{node_in}
use Rattle.text.specs.WriterLaws.{appends_as}
use Rattle.words.specs.Show.{node_text}
use Rattle.words.specs.RowLaws.{row_more, row_end}
use Rattle.describe.proofs.task.put_nodes.Goals as goal

pub loop-j-preserved : goal.loop-j-preserved
loop-j-preserved c =
    let a = c.args in
    row_more c.loop-j.invariant c.loop-j-test.true (appends_as (ap (λ (node : ℕ). node_text a.m (1 + c.loop-j.j) (node_in a.file.now a.sizes.now node)) c.offset_at.ensures) c.put_node.ensures)

pub returns : goal.returns
returns c = row_end c.loop-j.invariant c.loop-j-test.false
