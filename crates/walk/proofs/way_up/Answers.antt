-- `walk::way_up` meets its contract: what is paid and passed so far and the walk from node k on are together the walk from node 1 on.
-- Assumes nothing.
use Rattle.taskfile.specs.WalkInPlaceLaws.{turn_up, turn_ends, turn_none}
use native.Mathlib.Omega.{arith}
use Rattle.walk.proofs.way_up.Goals as goal

pub returns-then-edge-k : goal.returns-then-edge-k
returns-then-edge-k c =
    let a = c.args in
    let l = c.loop-k in
    let e = c.edge_at-edge.ensures in
    let t = turn_ends a.file.now a.nodes.now a.count a.state.now l.k c.offset_at.ensures c.offset_at-variable.ensures e.0 e.1 c.loop-k-test.true c.if-edge-k.true in
    (omega (arith, l.invariant, t), omega (arith, l.invariant, t), omega (arith, l.invariant, e.2, c.loop-k-test.true), omega (arith, l.invariant, c.loop-k-test.true))

pub loop-k-preserved : goal.loop-k-preserved
loop-k-preserved c =
    let a = c.args in
    let l = c.loop-k in
    let e = c.edge_at-edge.ensures in
    let t = turn_up a.file.now a.nodes.now a.count a.state.now l.k c.offset_at.ensures c.offset_at-variable.ensures e.0 e.1 c.loop-k-test.true c.if-edge-k.false in
    (omega (arith, l.invariant), omega (arith, l.invariant), omega (arith, l.invariant, e.2), omega (arith, l.invariant, t), omega (arith, l.invariant, t))

pub returns : goal.returns
returns c =
    let a = c.args in
    let l = c.loop-k in
    let t = turn_none a.file.now a.nodes.now a.count a.state.now l.k c.loop-k-test.false in
    (omega (arith, l.invariant, t), omega (arith, l.invariant, t), omega (arith, l.invariant), l.invariant.1)
