-- `probe_writer::length::extent_of` meets its contract: what is counted and what is left are together all steps.
use Prim.Native.Nat.{◌+◌, ◌≤◌}
use mathlib.Core.Path.{◌≡◌, ◌∙◌}
use native.Mathlib.Omega.{arith}
use lib.ListN.{get_or, drop}
use Rattle.taskfile.specs.Row.{own_from}
use Rattle.taskfile.specs.WalkInPlace.{incoming_place}
use Rattle.taskfile.specs.PartsInPlace.{Stood}
use Rattle.probe_writer.specs.InPlaceLaws.{left_start, left_none}
use Rattle.probe_writer.specs.ExtentLaws.{counted_start, states_are, count_in_lem, tests_own, counted_action, counted_end}
use Rattle.probe_writer.proofs.length.extent_of.Goals as goal
use Rattle.probe_writer.proofs.length.extent_of.Goals.{After-edge_count-edges, After-offset_at-incoming}

-- the action of this turn stands in the file
stood : (c : goal.After-offset_at-incoming) → let x = c.args in let a = c.loop-a.a in Stood x.file.now x.sizes.now (get_or x.row.now a 0) (drop (own_from x.row.now a) x.row.now)
stood c = c.requires.by_index c.loop-a.a c.loop-a-test.true

-- where its incoming weight stands
place : (c : goal.After-offset_at-incoming) → c.offset_at-incoming.result ≡ incoming_place c.args.file.now (get_or c.args.row.now c.loop-a.a 0)
place c = c.offset_at-incoming.ensures ∙ c.requires.sizes_len_bound.3.incoming c.loop-a.a c.loop-a-test.true

-- it has at most 64 nodes with 255 edges each
edges_few : (c : goal.After-edge_count-edges) → c.edge_count-edges.result ≤ 16320
edges_few c = omega (arith, c.edge_count-edges.ensures.1, count_in_lem c.args.file.now (get_or c.args.row.now c.loop-a.a 0) ((c.offset_at-incoming.ensures ∙ c.requires.sizes_len_bound.3.incoming c.loop-a.a c.loop-a-test.true)) c.byte_at.ensures, ((c.requires.by_index c.loop-a.a c.loop-a-test.true)).few)

-- its own partial states have at most 64 bytes
states-few : (c : goal.After-edge_count-edges) → let at = get_or c.args.row.now c.loop-a.a 0 in (at ≤ c.offset_at-incoming.result) × (c.offset_at-incoming.result ≤ at + 64)
states-few c =
    let own = states_are c.args.file.now ((c.requires.by_index c.loop-a.a c.loop-a-test.true)) ((c.offset_at-incoming.ensures ∙ c.requires.sizes_len_bound.3.incoming c.loop-a.a c.loop-a-test.true)) in
    (omega (arith, own.0), omega (arith, own.2, c.requires.sizes_len_bound.0))

pub loop-a-init : goal.loop-a-init
loop-a-init c = let x = c.args in (omega arith, omega arith, counted_start (left_start x.file.now x.sizes.now x.row.now x.count))

pub overflow_add-incoming : goal.overflow_add-incoming
overflow_add-incoming c = omega (arith, (states_are c.args.file.now (stood (goal.at.overflow_add-incoming c).After-offset_at-incoming) (place (goal.at.overflow_add-incoming c).After-offset_at-incoming)).1)

pub edge_count-edges-requires : goal.edge_count-edges-requires
edge_count-edges-requires c =
    let x = c.args in
    let at = get_or x.row.now c.loop-a.a 0 in
    tests_own x.file.now x.sizes.now x.row.now at (own_from x.row.now c.loop-a.a) (stood (goal.at.edge_count-edges-requires c).After-offset_at-incoming) c.own_nodes-own.ensures (count_in_lem x.file.now at (place (goal.at.edge_count-edges-requires c).After-offset_at-incoming) c.byte_at.ensures)

pub overflow_sub-bytes : goal.overflow_sub-bytes
overflow_sub-bytes c = (states-few c).0

pub overflow_add-bytes : goal.overflow_add-bytes
overflow_add-bytes c = omega (arith, (states-few c).1)

pub overflow_add-bytes-in-loop-a : goal.overflow_add-bytes-in-loop-a
overflow_add-bytes-in-loop-a c = omega (arith, (states-few c).1, edges_few c)

pub overflow_add-bytes-in-loop-a-2 : goal.overflow_add-bytes-in-loop-a-2
overflow_add-bytes-in-loop-a-2 c = omega (arith, c.loop-a.invariant.1, c.requires.sizes_len_bound.1, (states-few c).1, edges_few c)

pub loop-a-preserved : goal.loop-a-preserved
loop-a-preserved c =
    let x = c.args in
    let l = c.loop-a in
    let taken = c.loop-a-test.true in (
      omega (arith, l.invariant.0, edges_few c),
      omega (arith, l.invariant.1, edges_few c, (states-few c).1),
      counted_action x.file.now x.sizes.now x.row.now x.count l.a taken (stood (goal.at.loop-a-preserved c).After-offset_at-incoming) c.own_nodes-own.ensures (place (goal.at.loop-a-preserved c).After-offset_at-incoming) c.byte_at.ensures c.edge_count-edges.ensures.0 l.invariant.2,
    )

pub returns-clause-steps_value : goal.returns-clause-steps_value
returns-clause-steps_value c =
    let x = c.args in
    (counted_end c.loop-a.invariant.2 (left_none x.file.now x.sizes.now x.row.now x.count c.loop-a.a (omega arith))).0

pub returns-clause-bytes_value : goal.returns-clause-bytes_value
returns-clause-bytes_value c =
    let x = c.args in
    (counted_end c.loop-a.invariant.2 (left_none x.file.now x.sizes.now x.row.now x.count c.loop-a.a (omega arith))).1
