-- `probe_writer::head_bytes::put_markers` meets its contract: what is written and what is left are together the sizes of all markers.
use Prim.Native.Nat.{◌+◌, ◌-◌, ◌≤◌}
use mathlib.Core.Path.{◌≡◌, ◌∙◌}
use mathlib.Core.List.{[], ◌∷◌}
use native.Mathlib.Omega.{arith}
use lib.ListN.{length, get_or}
use Rattle.taskfile.specs.Row.{incoming_from}
use Rattle.taskfile.specs.WalkInPlace.{node_count}
use Rattle.step_writer.specs.InPlace.{Weighs}
use Rattle.probe_writer.specs.ExtentLaws.{count_in_lem}
use Rattle.probe_writer.specs.HeadInPlace.{markers_in}
use Rattle.facts.specs.WriteRowLaws.{Cut, going_inside, going_same, going_room, going_more}
use Rattle.probe_writer.specs.HeadLaws.{markers_long, markers_start, markers_cut}
use Rattle.probe_writer.proofs.head_bytes.put_markers.Goals as goal
use Rattle.probe_writer.proofs.head_bytes.put_markers.Goals.{After-byte_at, After-offset_at-incoming, Start}

-- the room for all of them
fits : (c : goal.Start) → length (markers_in c.args.file.now c.args.row.now 0 c.args.actions) ≤ length c.args.out.now
fits c = omega (arith, c.requires.actions_in_bounds, markers_long c.args.file.now c.args.row.now 0 c.args.actions)

-- where the incoming weight of the action of this turn stands, and how many nodes it has
weighs : (c : goal.After-offset_at-incoming) → Weighs c.args.file.now (get_or c.args.row.now c.loop-a.a 0) (get_or c.args.row.now (incoming_from + c.loop-a.a) 0)
weighs c = c.requires.by_index c.loop-a.a c.loop-a-test.true

count_is : (c : goal.After-byte_at) → c.byte_at.result ≡ node_count c.args.file.now (get_or c.args.row.now c.loop-a.a 0)
count_is c = count_in_lem c.args.file.now (get_or c.args.row.now c.loop-a.a 0) (c.offset_at-incoming.ensures ∙ ((c.requires.by_index c.loop-a.a c.loop-a-test.true)).place) c.byte_at.ensures

cut : (c : goal.After-byte_at) → let x = c.args in Cut (markers_in x.file.now x.row.now c.loop-a.a (x.actions - c.loop-a.a)) ((c.byte_at.result + 2) ∷ []) (markers_in x.file.now x.row.now (c.loop-a.a + 1) (x.actions - (c.loop-a.a + 1)))
cut c = let x = c.args in markers_cut x.file.now x.row.now x.actions c.loop-a.a (count_is c) c.loop-a-test.true

pub loop-a-init : goal.loop-a-init
loop-a-init c = markers_start c.args.file.now c.args.row.now c.args.actions c.args.out.now

pub slice_bounds-put_byte-count : goal.slice_bounds-put_byte-count
slice_bounds-put_byte-count c = going_inside c.loop-a.invariant (fits (goal.at.slice_bounds-put_byte-count c).Start)

pub slice_bounds-put_byte-start : goal.slice_bounds-put_byte-start
slice_bounds-put_byte-start c = going_inside c.loop-a.invariant (fits (goal.at.slice_bounds-put_byte-start c).Start)

pub overflow_add-byte_at : goal.overflow_add-byte_at
overflow_add-byte_at c = omega (arith, count_is (goal.at.overflow_add-byte_at c).After-byte_at, (weighs (goal.at.overflow_add-byte_at c).After-offset_at-incoming).few)

pub put_byte-at-requires : goal.put_byte-at-requires
put_byte-at-requires c = going_room c.loop-a.invariant (fits (goal.at.put_byte-at-requires c).Start) (cut (goal.at.put_byte-at-requires c).After-byte_at)

pub overflow_add-at : goal.overflow_add-at
overflow_add-at c =
    let g = going_more c.loop-a.invariant (fits (goal.at.overflow_add-at c).Start) (cut (goal.at.overflow_add-at c).After-byte_at) c.put_byte-at.ensures in
    omega (arith, going_inside g (fits (goal.at.overflow_add-at c).Start), going_same g (fits (goal.at.overflow_add-at c).Start))

pub loop-a-preserved : goal.loop-a-preserved
loop-a-preserved c = going_more c.loop-a.invariant (fits (goal.at.loop-a-preserved c).Start) (cut (goal.at.loop-a-preserved c).After-byte_at) c.put_byte-at.ensures
