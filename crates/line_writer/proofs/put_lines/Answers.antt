-- `line_writer::put_lines` meets its contract: the line of each action straight after those before it.
use Prim.Native.Nat.{◌≤◌}
use lib.ListN.{length}
use Rattle.line_writer.specs.Lines.{lines_text, entries_from}
use Rattle.line_writer.specs.LineLaws.{line_long}
use Rattle.line_writer.specs.EntryLaws.{lines_fit, lining_start, lining_long, lining_inside, lining_narrow, lining_room, lining_end, lining_next}
use native.Mathlib.Omega.{arith}
use Rattle.line_writer.proofs.put_lines.Goals as goal
use Rattle.line_writer.proofs.put_lines.Goals.{Start}

-- all lines have room
fits : (c : goal.Start) → length (lines_text (entries_from 0 0 c.args.list.now c.args.costs.now)) ≤ length c.args.out.now
fits c = lines_fit c.args.list.now c.args.costs.now c.requires.1 c.requires.2 c.requires.3

pub loop-i-init : goal.loop-i-init
loop-i-init c = lining_start _ _ c.requires.1 c.requires.2 _

pub overflow_add-paid : goal.overflow_add-paid
overflow_add-paid c = omega (arith, (lining_narrow _ _ c.requires.1 c.loop-i.invariant (fits (goal.at.overflow_add-paid c).Start) c.loop-i-test.true).sum)

pub slice_bounds-put_line-count : goal.slice_bounds-put_line-count
slice_bounds-put_line-count c = lining_inside _ _ c.requires.1 c.loop-i.invariant (fits (goal.at.slice_bounds-put_line-count c).Start)

pub slice_bounds-put_line-start : goal.slice_bounds-put_line-start
slice_bounds-put_line-start c = lining_inside _ _ c.requires.1 c.loop-i.invariant (fits (goal.at.slice_bounds-put_line-start c).Start)

pub put_line-at-requires : goal.put_line-at-requires
put_line-at-requires c = let n = lining_narrow _ _ c.requires.1 c.loop-i.invariant (fits (goal.at.put_line-at-requires c).Start) c.loop-i-test.true in (n, omega (arith, line_long _ n, lining_room _ _ c.requires.1 c.loop-i.invariant (fits (goal.at.put_line-at-requires c).Start) c.loop-i-test.true))

pub overflow_add-at : goal.overflow_add-at
overflow_add-at c = omega (arith, c.put_line-at.ensures.count, lining_end _ _ c.requires.1 c.loop-i.invariant (fits (goal.at.overflow_add-at c).Start) c.loop-i-test.true, lining_long _ _ c.requires.1 c.loop-i.invariant (fits (goal.at.overflow_add-at c).Start), c.well_formed)

pub loop-i-preserved : goal.loop-i-preserved
loop-i-preserved c = lining_next c.args.list.now c.args.costs.now c.requires.1 c.loop-i.invariant (fits (goal.at.loop-i-preserved c).Start) c.loop-i-test.true c.put_line-at.ensures
