-- `numbering::number_edges` meets its contract: the first edge of each node comes after the edges of the nodes before it.
use Prim.Native.Nat.{◌+◌, ◌≤◌}
use mathlib.Core.Path.{◌≡◌, ◌∙◌}
use native.Mathlib.Omega.{arith}
use lib.ListN.{length, get_or}
use Rattle.facts.specs.Lists.{At}
use Rattle.taskfile.specs.PartsInPlace.{node_in, nodes_in}
use Rattle.taskfile.specs.PartsInPlaceLaws.{nodes_long, nodes_at}
use Rattle.compilation.specs.Compile.{edge_count}
use Rattle.numbering.specs.NumberLaws.{edging_small, edging_next, edging_end, edges_are}
use Rattle.probefile.specs.Probe.{max_steps}
use Rattle.numbering.proofs.number_edges.Goals as goal
use Rattle.numbering.proofs.number_edges.Goals.{After-byte_at, In-loop-j, Start}

-- the node of this turn, and how many edges it has
node : (c : goal.In-loop-j) → let a = c.args in At (nodes_in a.file.now a.sizes.now a.nodes.now 0 a.count) c.loop-j.j (node_in a.file.now a.sizes.now (get_or a.nodes.now c.loop-j.j 0))
node c =
    let a = c.args in
    nodes_at a.file.now a.sizes.now a.nodes.now 0 a.count c.loop-j.j c.loop-j.j c.loop-j-test.true (omega arith)

edges : (c : goal.After-byte_at) → let a = c.args in c.byte_at.result ≡ edge_count (node_in a.file.now a.sizes.now (get_or a.nodes.now c.loop-j.j 0))
edges c =
    edges_are c.args.file.now c.args.sizes.now (get_or c.args.nodes.now c.loop-j.j 0) (c.offset_at-variable.ensures ∙ c.requires.2.variable c.loop-j.j c.loop-j-test.true) c.byte_at.ensures

-- as many nodes as are asked for
long : (c : goal.Start) → length (nodes_in c.args.file.now c.args.sizes.now c.args.nodes.now 0 c.args.count) ≤ length c.args.first_edge.now
long c = let a = c.args in omega (arith, c.requires.0, nodes_long a.file.now a.sizes.now a.nodes.now 0 a.count)

-- the number after this node's edges
small : (c : goal.After-byte_at) → c.loop-j.next + c.byte_at.result ≤ max_steps
small c =
    let a = c.args in
    omega (arith, c.requires.1, edging_small c.loop-j.invariant (nodes_at a.file.now a.sizes.now a.nodes.now 0 a.count c.loop-j.j c.loop-j.j c.loop-j-test.true (omega arith)), edges c)

pub overflow_add-next : goal.overflow_add-next
overflow_add-next c = omega (arith, small c)

pub loop-j-preserved : goal.loop-j-preserved
loop-j-preserved c = edging_next c.loop-j.invariant (node (goal.at.loop-j-preserved c).In-loop-j) (long (goal.at.loop-j-preserved c).Start) (edges c)

pub returns-clause-value : goal.returns-clause-value
returns-clause-value c = let a = c.args in (edging_end c.loop-j.invariant (omega (arith, nodes_long a.file.now a.sizes.now a.nodes.now 0 a.count))).0

pub returns-clause-edges : goal.returns-clause-edges
returns-clause-edges c = let a = c.args in (edging_end c.loop-j.invariant (omega (arith, nodes_long a.file.now a.sizes.now a.nodes.now 0 a.count))).1
