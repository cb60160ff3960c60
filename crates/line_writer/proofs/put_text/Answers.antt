-- `line_writer::put_text` meets its contract: the lines, and straight after them the last line.
use Prim.Native.Nat.{ℕ, ◌+◌, ◌≤◌}
use mathlib.Core.List.{List}
use lib.ListN.{length, length-append}
use Rattle.facts.specs.WriteLaws.{wrote_inside, wrote_room, wrote_then}
use Rattle.line_writer.specs.Lines.{last_text, lines_text, entries_from}
use Rattle.line_writer.specs.LineLaws.{last_long}
use Rattle.line_writer.specs.EntryLaws.{text_long}
use native.Mathlib.Omega.{arith}
use Rattle.line_writer.proofs.put_text.Goals as goal
use Rattle.line_writer.proofs.put_text.Goals.{Start}

abbrev lines : goal.Start → List ℕ
lines c = lines_text (entries_from 0 0 c.args.list.now c.args.costs.now)

abbrev last : goal.Start → List ℕ
last c = last_text c.args.sum

-- both have room
room : (c : goal.Start) → length (lines c) + length (last c) ≤ length c.args.out.now
room c = omega (arith, text_long c.args.list.now c.args.costs.now c.requires.1 c.requires.2 c.requires.3, length-append (lines c) (last c), c.requires.4)

pub put_lines-end-requires : goal.put_lines-end-requires
put_lines-end-requires c = let p = c.requires in (p.0, p.1, p.2, omega (arith, p.4))

pub slice_bounds-put_last-count : goal.slice_bounds-put_last-count
slice_bounds-put_last-count c = wrote_inside c.put_lines-end.ensures (omega (arith, room (goal.at.slice_bounds-put_last-count c).Start))

pub slice_bounds-put_last-start : goal.slice_bounds-put_last-start
slice_bounds-put_last-start c = wrote_inside c.put_lines-end.ensures (omega (arith, room (goal.at.slice_bounds-put_last-start c).Start))

pub put_last-requires : goal.put_last-requires
put_last-requires c = (c.requires.3, omega (arith, last_long c.args.sum c.requires.3, wrote_room c.put_lines-end.ensures (room (goal.at.put_last-requires c).Start)))

pub overflow_add-result : goal.overflow_add-result
overflow_add-result c = omega (arith, c.put_lines-end.ensures.count, c.put_last.ensures.count, room (goal.at.overflow_add-result c).Start, c.well_formed)

pub returns : goal.returns
returns c = wrote_then c.put_lines-end.ensures c.put_last.ensures
