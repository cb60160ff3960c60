-- `probe_writer::action::put_action` meets its contract: the start, the steps of the nodes and the end, each straight after the last.
use Prim.Native.Nat.{ℕ, ◌+◌, ◌≤◌, ◌<◌}
use mathlib.Core.Path.{◌≡◌, sym, subst}
use mathlib.Core.List.{List, ◌++◌}
use native.Mathlib.Omega.{arith}
use lib.ListN.{length, get_or, length-append}
use Rattle.facts.specs.Partial.{past_partial}
use Rattle.facts.specs.Fields.{write_each}
use Rattle.facts.specs.WriteLaws.{wrote_inside, wrote_room, wrote_then}
use Rattle.taskfile.specs.Task.{max_nodes}
use Rattle.taskfile.specs.WalkInPlace.{node_count}
use Rattle.probefile.specs.ProbeFile.{write_step}
use Rattle.compilation.specs.Compile.{flat, node_steps}
use Rattle.taskfile.specs.PartsInPlace.{nodes_in, Stands, Tests}
use Rattle.step_writer.specs.InPlace.{start_in, end_in}
use Rattle.probe_writer.specs.ExtentLaws.{states_are, count_in_lem, incoming_past}
use Rattle.probe_writer.specs.InPlaceLaws.{action_long, wrote_action}
use Rattle.probe_writer.proofs.action.put_action.Goals as goal
use Rattle.probe_writer.proofs.action.put_action.Goals.{After-byte_at-count}

-- where the effect begins, and how many nodes there are
effect_is : (c : goal.After-byte_at-count) → c.args.effect ≡ past_partial c.args.file.now c.args.at
effect_is c = c.requires.stood.1

count_is : (c : goal.After-byte_at-count) → c.byte_at-count.result ≡ node_count c.args.file.now c.args.at
count_is c = count_in_lem c.args.file.now c.args.at c.requires.stood.2 c.byte_at-count.ensures

-- the three parts, and the room that is required
abbrev start : goal.After-byte_at-count → List ℕ
start c = let a = c.args in write_step (start_in a.file.now (length a.sizes.now) a.a a.at)

abbrev nodes : goal.After-byte_at-count → List ℕ
nodes c = let a = c.args in write_each write_step (flat (node_steps (length a.sizes.now) a.a) 1 (nodes_in a.file.now a.sizes.now a.nodes.now 0 c.byte_at-count.result))

abbrev ends : goal.After-byte_at-count → List ℕ
ends c = let a = c.args in write_step (end_in a.file.now (length a.sizes.now) a.a a.effect c.byte_at-count.result)

fits : (c : goal.After-byte_at-count) → length (start c) + length (nodes c) + length (ends c) ≤ length c.args.out.now
fits c =
    let a = c.args in
    omega (arith, c.requires.nodes_in_bounds, action_long a.file.now a.sizes.now a.at a.nodes.now (length a.sizes.now) a.a (count_is c) (effect_is c))

two_long : (c : goal.After-byte_at-count) → length (start c ++ nodes c) ≡ length (start c) + length (nodes c)
two_long c = length-append (start c) (nodes c)

-- no more nodes than an action may have, each of which tests one of the variables
few : (c : goal.After-byte_at-count) → c.byte_at-count.result ≤ max_nodes
few c = omega (arith, count_is c, c.requires.stood.0.few)

tests : (c : goal.After-byte_at-count) (j : ℕ) → j < c.byte_at-count.result → Tests c.args.file.now c.args.sizes.now (get_or c.args.nodes.now j 0)
tests c j h = c.requires.stood.0.nodes j (omega (arith, h, count_is c))

pub overflow_add-incoming : goal.overflow_add-incoming
overflow_add-incoming c = omega (arith, (states_are c.args.file.now c.requires.stood.0 c.requires.stood.2).1)

pub put_nodes-requires-clause-sizes_len_bound : goal.put_nodes-requires-clause-sizes_len_bound
put_nodes-requires-clause-sizes_len_bound c = (c.requires.stood.3, c.requires.stood.4, few (goal.at.put_nodes-requires-clause-sizes_len_bound c).After-byte_at-count)

pub put_nodes-requires-clause-by_index : goal.put_nodes-requires-clause-by_index
put_nodes-requires-clause-by_index c = tests (goal.at.put_nodes-requires-clause-by_index c).After-byte_at-count

pub put_nodes-requires-clause-count_in_bounds : goal.put_nodes-requires-clause-count_in_bounds
put_nodes-requires-clause-count_in_bounds c = wrote_room c.put_start-start.ensures (omega (arith, fits (goal.at.put_nodes-requires-clause-count_in_bounds c).After-byte_at-count))

pub overflow_add-edges : goal.overflow_add-edges
overflow_add-edges c = omega (arith, fits (goal.at.overflow_add-edges c).After-byte_at-count, c.put_start-start.ensures.count, c.put_nodes.ensures.count)

pub slice_bounds-put_end-count : goal.slice_bounds-put_end-count
slice_bounds-put_end-count c = wrote_inside {bytes = start (goal.at.slice_bounds-put_end-count c).After-byte_at-count ++ nodes (goal.at.slice_bounds-put_end-count c).After-byte_at-count} (wrote_then c.put_start-start.ensures c.put_nodes.ensures) (omega (arith, fits (goal.at.slice_bounds-put_end-count c).After-byte_at-count, two_long (goal.at.slice_bounds-put_end-count c).After-byte_at-count))

pub slice_bounds-put_end-start : goal.slice_bounds-put_end-start
slice_bounds-put_end-start c = wrote_inside {bytes = start (goal.at.slice_bounds-put_end-start c).After-byte_at-count ++ nodes (goal.at.slice_bounds-put_end-start c).After-byte_at-count} (wrote_then c.put_start-start.ensures c.put_nodes.ensures) (omega (arith, fits (goal.at.slice_bounds-put_end-start c).After-byte_at-count, two_long (goal.at.slice_bounds-put_end-start c).After-byte_at-count))

pub put_end-requires-clause-stands : goal.put_end-requires-clause-stands
put_end-requires-clause-stands c = let f = c.args.file.now in (subst (Stands f (length c.args.sizes.now)) (sym (effect_is (goal.at.put_end-requires-clause-stands c).After-byte_at-count)) c.requires.stood.0.eff, incoming_past f c.args.at (effect_is (goal.at.put_end-requires-clause-stands c).After-byte_at-count) c.requires.stood.2, few (goal.at.put_end-requires-clause-stands c).After-byte_at-count)

pub put_end-requires-clause-count_in_bounds : goal.put_end-requires-clause-count_in_bounds
put_end-requires-clause-count_in_bounds c = let f = c.args.file.now in wrote_room {bytes = start (goal.at.put_end-requires-clause-count_in_bounds c).After-byte_at-count ++ nodes (goal.at.put_end-requires-clause-count_in_bounds c).After-byte_at-count} (wrote_then c.put_start-start.ensures c.put_nodes.ensures) (omega (arith, fits (goal.at.put_end-requires-clause-count_in_bounds c).After-byte_at-count, two_long (goal.at.put_end-requires-clause-count_in_bounds c).After-byte_at-count))

pub overflow_add-result : goal.overflow_add-result
overflow_add-result c = omega (arith, c.well_formed, fits (goal.at.overflow_add-result c).After-byte_at-count, c.put_start-start.ensures.count, c.put_nodes.ensures.count, c.put_end.ensures.count)

pub returns : goal.returns
returns c =
    let a = c.args in
    wrote_action a.file.now a.sizes.now a.at a.nodes.now (length a.sizes.now) a.a (count_is (goal.at.returns c).After-byte_at-count) (effect_is (goal.at.returns c).After-byte_at-count)
    (wrote_then (wrote_then c.put_start-start.ensures c.put_nodes.ensures) c.put_end.ensures)
