-- `facts::write::put_partial` meets its contract: each part is written straight after the last one. Assumes nothing.
use Prim.Native.Nat.{◌+◌, ◌≤◌}
use mathlib.Core.List.{◌++◌, append_assoc}
use lib.ListN.{length, length-append}
use Rattle.facts.specs.Bytes.{bytes_of}
use Rattle.facts.specs.Partial.{write_partial}
use Rattle.facts.specs.PartialLaws.{length_written}
use Rattle.facts.specs.WriteLaws.{wrote_inside, wrote_room, wrote_then}
use native.Mathlib.Omega.{arith}
use Rattle.facts.proofs.write.put_partial.Goals as goal
use Rattle.facts.proofs.write.put_partial.Goals.{Start}

-- the room that is required
fits : (c : goal.Start) → 8 + (length c.args.values.now + length c.args.further.now) ≤ length c.args.out.now
fits c = omega (arith, length_written (record { map = c.args.map; values = c.args.values.now ++ c.args.further.now }), length-append c.args.values.now c.args.further.now)

-- for the map and the values, and then for all
both-fit : (c : goal.Start) → length (bytes_of 8 c.args.map ++ c.args.values.now) ≤ length c.args.out.now
both-fit c = simp length-append (omega (arith, fits c))

all_fit : (c : goal.Start) → length (bytes_of 8 c.args.map ++ c.args.values.now) + length c.args.further.now ≤ length c.args.out.now
all_fit c = simp length-append (omega (arith, fits c))

pub put_map-a-requires : goal.put_map-a-requires
put_map-a-requires c = omega (arith, fits (goal.at.put_map-a-requires c).Start)

pub slice_bounds-put_bytes-count : goal.slice_bounds-put_bytes-count
slice_bounds-put_bytes-count c = wrote_inside c.put_map-a.ensures (omega (arith, fits (goal.at.slice_bounds-put_bytes-count c).Start))

pub slice_bounds-put_bytes-start : goal.slice_bounds-put_bytes-start
slice_bounds-put_bytes-start c = wrote_inside c.put_map-a.ensures (omega (arith, fits (goal.at.slice_bounds-put_bytes-start c).Start))

pub put_bytes-requires : goal.put_bytes-requires
put_bytes-requires c = wrote_room c.put_map-a.ensures (omega (arith, fits (goal.at.put_bytes-requires c).Start))

pub slice_bounds-put_bytes-count-2 : goal.slice_bounds-put_bytes-count-2
slice_bounds-put_bytes-count-2 c = wrote_inside (wrote_then c.put_map-a.ensures c.put_bytes.ensures) (both-fit (goal.at.slice_bounds-put_bytes-count-2 c).Start)

pub slice_bounds-put_bytes-start-2 : goal.slice_bounds-put_bytes-start-2
slice_bounds-put_bytes-start-2 c = wrote_inside (wrote_then c.put_map-a.ensures c.put_bytes.ensures) (both-fit (goal.at.slice_bounds-put_bytes-start-2 c).Start)

pub put_bytes-requires-2 : goal.put_bytes-requires-2
put_bytes-requires-2 c = wrote_room (wrote_then c.put_map-a.ensures c.put_bytes.ensures) (all_fit (goal.at.put_bytes-requires-2 c).Start)

pub overflow_add-result : goal.overflow_add-result
overflow_add-result c = omega (arith, fits (goal.at.overflow_add-result c).Start, c.put_map-a.ensures.count, c.put_bytes.ensures.count, c.put_bytes-2.ensures.count)

pub returns : goal.returns
unfolding write_partial
returns c =
    let a = c.args in
    rw (← append_assoc (bytes_of 8 a.map) a.values.now a.further.now) (wrote_then (wrote_then c.put_map-a.ensures c.put_bytes.ensures) c.put_bytes-2.ensures)
