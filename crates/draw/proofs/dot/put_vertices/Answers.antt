-- `draw::dot::put_vertices` meets its contract: one node after the other.
use Prim.Native.Nat.{ℕ, ◌+◌}
use mathlib.Core.Path.{ap}
use Rattle.taskfile.specs.PartsInPlace.{node_in}
use Rattle.text.specs.WriterLaws.{appends_as}
use Rattle.words.specs.Dot.{dot_node}
use Rattle.words.specs.RowLaws.{row_more, row_end}
use Rattle.draw.proofs.dot.put_vertices.Goals as goal

pub loop-j-preserved : goal.loop-j-preserved
loop-j-preserved c =
    let x = c.args in
    row_more c.loop-j.invariant c.loop-j-test.true (appends_as (ap (λ (node : ℕ). dot_node x.a (1 + c.loop-j.j) (node_in x.file.now x.sizes.now node)) c.offset_at.ensures) c.put_vertex.ensures)

pub returns : goal.returns
returns c = row_end c.loop-j.invariant c.loop-j-test.false
