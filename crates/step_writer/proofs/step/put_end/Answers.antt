-- `step_writer::step::put_end` meets its contract: one fact, the effect with two facts and no cost, each straight after the last.
use Prim.Native.Nat.{◌+◌, ◌≤◌}
use mathlib.Core.Path.{◌≡◌}
use native.Mathlib.Omega.{arith}
use lib.ListN.{length, length-append}
use Rattle.facts.specs.Partial.{Partial, partial_at, write_partial, empty}
use Rattle.facts.specs.PartialLaws.{length_written}
use Rattle.facts.specs.WriteLaws.{wrote_inside, wrote_room, wrote_then}
use Rattle.compilation.specs.Extend.{extend}
use Rattle.compilation.specs.CompiledLengthLaws.{step_written}
use Rattle.step_writer.specs.InPlace.{end_in}
use Rattle.step_writer.specs.PutLaws.{wrote_end}
use Rattle.step_writer.proofs.step.put_end.Goals as goal
use Rattle.step_writer.proofs.step.put_end.Goals.{After-marker-marker}

-- precondition and effect
abbrev pre : goal.After-marker-marker → Partial
pre c = extend empty c.marker-marker.result (1 + c.args.count)

abbrev eff : goal.After-marker-marker → Partial
eff c = extend (extend (partial_at c.args.file.now c.args.effect) c.args.marks.n 0) (c.args.marks.n + (1 + c.args.marks.a)) 0

-- the room that is required
pre-long : (c : goal.After-marker-marker) → length (write_partial (pre c)) ≡ 9
pre-long c = length_written (pre c)

fits : (c : goal.After-marker-marker) → length (write_partial (eff c)) + 11 ≤ length c.args.out.now
fits c = omega (arith, c.requires.count_in_bounds, step_written (end_in c.args.file.now c.args.marks.n c.args.marks.a c.args.effect c.args.count), length_written (eff c))

pub put_one-pre-requires : goal.put_one-pre-requires
put_one-pre-requires c = (omega (arith, c.marker-marker.ensures, c.args.marks.inside), omega (arith, fits (goal.at.put_one-pre-requires c).After-marker-marker))

pub slice_bounds-put_cleared-count : goal.slice_bounds-put_cleared-count
slice_bounds-put_cleared-count c = wrote_inside c.put_one-pre.ensures (omega (arith, fits (goal.at.slice_bounds-put_cleared-count c).After-marker-marker, pre-long (goal.at.slice_bounds-put_cleared-count c).After-marker-marker))

pub slice_bounds-put_cleared-start : goal.slice_bounds-put_cleared-start
slice_bounds-put_cleared-start c = wrote_inside c.put_one-pre.ensures (omega (arith, fits (goal.at.slice_bounds-put_cleared-start c).After-marker-marker, pre-long (goal.at.slice_bounds-put_cleared-start c).After-marker-marker))

pub put_cleared-requires-clause-a_in_bounds : goal.put_cleared-requires-clause-a_in_bounds
put_cleared-requires-clause-a_in_bounds c = wrote_room c.put_one-pre.ensures (omega (arith, fits (goal.at.put_cleared-requires-clause-a_in_bounds c).After-marker-marker, pre-long (goal.at.put_cleared-requires-clause-a_in_bounds c).After-marker-marker))

pub overflow_add-eff : goal.overflow_add-eff
overflow_add-eff c = omega (arith, fits (goal.at.overflow_add-eff c).After-marker-marker, pre-long (goal.at.overflow_add-eff c).After-marker-marker, c.put_one-pre.ensures.count, c.put_cleared.ensures.count)

pub slice_bounds-put_word-count : goal.slice_bounds-put_word-count
slice_bounds-put_word-count c = wrote_inside (wrote_then c.put_one-pre.ensures c.put_cleared.ensures) (simp length-append (omega (arith, fits (goal.at.slice_bounds-put_word-count c).After-marker-marker, pre-long (goal.at.slice_bounds-put_word-count c).After-marker-marker)))

pub slice_bounds-put_word-start : goal.slice_bounds-put_word-start
slice_bounds-put_word-start c = wrote_inside (wrote_then c.put_one-pre.ensures c.put_cleared.ensures) (simp length-append (omega (arith, fits (goal.at.slice_bounds-put_word-start c).After-marker-marker, pre-long (goal.at.slice_bounds-put_word-start c).After-marker-marker)))

pub put_word-requires : goal.put_word-requires
put_word-requires c = wrote_room (wrote_then c.put_one-pre.ensures c.put_cleared.ensures) (simp length-append (omega (arith, fits (goal.at.put_word-requires c).After-marker-marker, pre-long (goal.at.put_word-requires c).After-marker-marker)))

pub overflow_add-result : goal.overflow_add-result
overflow_add-result c = omega (arith, fits (goal.at.overflow_add-result c).After-marker-marker, pre-long (goal.at.overflow_add-result c).After-marker-marker, c.put_one-pre.ensures.count, c.put_cleared.ensures.count, c.put_word.ensures.count)

pub returns : goal.returns
returns c =
    let a = c.args in
    wrote_end a.file.now a.effect a.marks.n a.marks.a a.count c.marker-marker.ensures (wrote_then (wrote_then c.put_one-pre.ensures c.put_cleared.ensures) c.put_word.ensures)
