-- `probe_writer::action::put_nodes` meets its contract: what is written and what is left are together the steps of all nodes.
use Prim.Native.Nat.{ℕ, ◌+◌}
use mathlib.Core.List.{List}
use native.Mathlib.Omega.{arith}
use lib.ListN.{length}
use Rattle.facts.specs.Fields.{write_each}
use Rattle.probefile.specs.ProbeFile.{write_step}
use Rattle.compilation.specs.Compile.{node_steps}
use Rattle.taskfile.specs.PartsInPlace.{node_in}
use Rattle.facts.specs.WriteRowLaws.{Cut, going_inside, going_same, going_room, going_more, going_end}
use Rattle.probe_writer.specs.InPlaceLaws.{nodes_from, nodes_start, nodes_cut, nodes_none}
use Rattle.probe_writer.proofs.action.put_nodes.Goals as goal
use Rattle.probe_writer.proofs.action.put_nodes.Goals.{After-offset_at-node}

-- what is left from index j on
abbrev left : goal.After-offset_at-node → ℕ → List ℕ
left c j = let x = c.args in nodes_from x.file.now x.sizes.now x.nodes.now (length x.sizes.now) x.a x.count j

cut : (c : goal.After-offset_at-node) → let x = c.args in let j = c.loop-j.j in Cut (left c j) (write_each write_step (node_steps (length x.sizes.now) x.a (1 + j) (node_in x.file.now x.sizes.now c.offset_at-node.result))) (left c (j + 1))
cut c = let x = c.args in nodes_cut x.file.now x.sizes.now x.nodes.now (length x.sizes.now) x.a x.count c.loop-j.j c.offset_at-node.ensures c.loop-j-test.true

pub loop-j-init : goal.loop-j-init
loop-j-init c = nodes_start c.args.file.now c.args.sizes.now c.args.nodes.now (length c.args.sizes.now) c.args.a c.args.count c.args.out.now

pub put_node-at-requires-clause-node_in_bounds : goal.put_node-at-requires-clause-node_in_bounds
put_node-at-requires-clause-node_in_bounds c = going_room c.loop-j.invariant c.requires.count_in_bounds (cut (goal.at.put_node-at-requires-clause-node_in_bounds c).After-offset_at-node)

pub overflow_add-at : goal.overflow_add-at
overflow_add-at c =
    let fits = c.requires.count_in_bounds in
    let g = going_more c.loop-j.invariant fits (cut (goal.at.overflow_add-at c).After-offset_at-node) c.put_node-at.ensures in
    omega (arith, going_inside g fits, going_same g fits)

pub loop-j-preserved : goal.loop-j-preserved
loop-j-preserved c = going_more c.loop-j.invariant c.requires.count_in_bounds (cut (goal.at.loop-j-preserved c).After-offset_at-node) c.put_node-at.ensures

pub returns : goal.returns
returns c = going_end c.loop-j.invariant c.requires.count_in_bounds (nodes_none c.args.file.now c.args.sizes.now c.args.nodes.now (length c.args.sizes.now) c.args.a c.args.count c.loop-j.j (omega arith))
