-- `follow::follow_path` meets its contract: what is passed and what the walk from node k on passes are together the path.
use mathlib.Core.Path.{◌≡◌, ◌∙◌}
use native.Mathlib.Omega.{arith}
use Rattle.numbering.specs.ActionLaws.{Visited, visited, edge_paid}
use Rattle.follow.specs.FollowLaws.{tracing_node, tracing_end}
use Rattle.follow.proofs.follow_path.Goals as goal
use Rattle.follow.proofs.follow_path.Goals.{After-edge_for-edge}

-- the node of this turn, the state's value there, and where its edge leads
there : (c : goal.After-edge_for-edge) → let a = c.args in Visited a.file.now a.sizes.now a.nodes.now a.count a.state.now c.loop-k.k c.offset_at-node.result c.in_ok-value.value c.edge_for-edge.result.target
there c =
    let a = c.args in
    let same : c.in_ok-value.value ≡ c.byte_at.result = omega (arith, c.if-byte_at-value.false) in
    visited a.file.now a.sizes.now a.nodes.now a.count c.requires.walkable c.requires.tested c.loop-k.invariant.low c.loop-k-test.true c.offset_at-node.ensures c.offset_at-in-loop-k.ensures (same ∙ c.byte_at.ensures) c.edge_for-edge.ensures.0

pub loop-k-smaller : goal.loop-k-smaller
loop-k-smaller c = omega (arith, (there (goal.at.loop-k-smaller c).After-edge_for-edge).above, c.loop-k-test.true)

pub loop-k-preserved : goal.loop-k-preserved
loop-k-preserved c =
    let a = c.args in
    let same : c.in_ok-value.value ≡ c.byte_at.result = omega (arith, c.if-byte_at-value.false) in
    let is = c.in_ok-value.ensures in
    let edge = c.edge_for-edge.ensures in
    let v = there (goal.at.loop-k-preserved c).After-edge_for-edge in
    let paid = edge_paid a.file.now a.nodes.now a.count a.state.now c.loop-k.k c.loop-k-test.true c.offset_at-node.ensures c.offset_at-in-loop-k.ensures (same ∙ c.byte_at.ensures) edge.0 edge.1 v.above in
    tracing_node c.requires.walkable c.loop-k.invariant v c.offset_at.ensures is.0 is.1 paid edge.2

-- the last entry is the end
pub returns-then-ends : goal.returns-then-ends
returns-then-ends c =
    let is = c.in_ok-beyond.ensures in
    tracing_end c.requires.walkable c.loop-k.invariant c.loop-k-test.false is.0 (omega (arith, is.1, c.if-ends.true))
