-- `probe_writer::head_bytes::put_head` meets its contract: sizes, initial values, the_goal and step count, each straight after the last.
use Prim.Native.Nat.{ℕ, ◌+◌, ◌≤◌}
use mathlib.Core.List.{List}
use native.Mathlib.Omega.{arith}
use lib.ListN.{length}
use Rattle.facts.specs.Partial.{write_partial}
use Rattle.facts.specs.WriteLaws.{wrote_then}
use Rattle.probe_writer.specs.HeadInPlace.{sizes_in, init_in, goal_in}
use Rattle.probe_writer.specs.HeadLaws.{head_long, wrote_head}
use Rattle.probe_writer.proofs.head_bytes.put_head.Goals as goal
use Rattle.probe_writer.proofs.head_bytes.put_head.Goals.{Start}

-- the three parts, and the room that is required
abbrev sizes : goal.Start → List ℕ
sizes c = sizes_in c.args.file.now c.args.n c.args.actions c.args.row.now

abbrev init : goal.Start → List ℕ
init c = init_in c.args.file.now c.args.n c.args.actions

abbrev the_goal : goal.Start → List ℕ
the_goal c = write_partial (goal_in c.args.file.now c.args.n c.args.actions)

fits : (c : goal.Start) → length (sizes c) + length (init c) + length (the_goal c) + 2 ≤ length c.args.out.now
fits c = omega (arith, c.requires.steps_in_bounds, head_long c.args.file.now c.args.n c.args.actions c.args.row.now c.args.steps)

pub overflow_add-result : goal.overflow_add-result
overflow_add-result c = omega (arith, fits (goal.at.overflow_add-result c).Start, c.put_sizes-sizes.ensures.count, c.put_init.ensures.count, c.put_goal.ensures.count, c.put_word.ensures.count)

pub returns : goal.returns
returns c =
    wrote_head c.args.file.now c.args.n c.args.actions c.args.row.now c.args.steps
    (wrote_then (wrote_then (wrote_then c.put_sizes-sizes.ensures c.put_init.ensures) c.put_goal.ensures) c.put_word.ensures)
