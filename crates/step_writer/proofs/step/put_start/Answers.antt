-- `step_writer::step::put_start` meets its contract: the precondition with two facts, two facts and the incoming weight, each straight after the last.
use Prim.Native.Nat.{◌+◌, ◌≤◌}
use mathlib.Core.Path.{◌≡◌}
use native.Mathlib.Omega.{arith}
use lib.ListN.{length, length-append}
use Rattle.facts.specs.Partial.{Partial, partial_at, write_partial, empty}
use Rattle.facts.specs.PartialLaws.{length_written}
use Rattle.facts.specs.WriteLaws.{wrote_inside, wrote_room, wrote_then}
use Rattle.compilation.specs.Extend.{extend}
use Rattle.compilation.specs.CompiledLengthLaws.{step_written}
use Rattle.step_writer.specs.InPlace.{start_in}
use Rattle.step_writer.specs.PutLaws.{wrote_start}
use Rattle.step_writer.proofs.step.put_start.Goals as goal
use Rattle.step_writer.proofs.step.put_start.Goals.{After-marker-marker}

-- precondition and effect
abbrev pre : goal.After-marker-marker → Partial
pre c = extend (extend (partial_at c.args.file.now c.args.at) c.args.marks.n 0) (c.args.marks.n + (1 + c.args.marks.a)) 0

abbrev eff : goal.After-marker-marker → Partial
eff c = extend (extend empty c.args.marks.n 1) c.marker-marker.result 1

-- the room that is required
eff-long : (c : goal.After-marker-marker) → length (write_partial (eff c)) ≡ 10
eff-long c = length_written (eff c)

fits : (c : goal.After-marker-marker) → length (write_partial (pre c)) + 12 ≤ length c.args.out.now
fits c = omega (arith, c.requires.at_in_bounds, step_written (start_in c.args.file.now c.args.marks.n c.args.marks.a c.args.at), length_written (pre c))

pub put_cleared-pre-requires-clause-a_in_bounds : goal.put_cleared-pre-requires-clause-a_in_bounds
put_cleared-pre-requires-clause-a_in_bounds c = omega (arith, fits (goal.at.put_cleared-pre-requires-clause-a_in_bounds c).After-marker-marker)

pub slice_bounds-put_two-count : goal.slice_bounds-put_two-count
slice_bounds-put_two-count c = wrote_inside c.put_cleared-pre.ensures (omega (arith, fits (goal.at.slice_bounds-put_two-count c).After-marker-marker))

pub slice_bounds-put_two-start : goal.slice_bounds-put_two-start
slice_bounds-put_two-start c = wrote_inside c.put_cleared-pre.ensures (omega (arith, fits (goal.at.slice_bounds-put_two-start c).After-marker-marker))

pub put_two-requires : goal.put_two-requires
put_two-requires c = (omega (arith, c.args.marks.inside), omega (arith, c.marker-marker.ensures, c.args.marks.inside), wrote_room c.put_cleared-pre.ensures (omega (arith, fits (goal.at.put_two-requires c).After-marker-marker)))

pub overflow_add-eff : goal.overflow_add-eff
overflow_add-eff c = omega (arith, fits (goal.at.overflow_add-eff c).After-marker-marker, eff-long (goal.at.overflow_add-eff c).After-marker-marker, c.put_cleared-pre.ensures.count, c.put_two.ensures.count)

pub slice_bounds-put_word-count : goal.slice_bounds-put_word-count
slice_bounds-put_word-count c = wrote_inside (wrote_then c.put_cleared-pre.ensures c.put_two.ensures) (simp length-append (omega (arith, fits (goal.at.slice_bounds-put_word-count c).After-marker-marker, eff-long (goal.at.slice_bounds-put_word-count c).After-marker-marker)))

pub slice_bounds-put_word-start : goal.slice_bounds-put_word-start
slice_bounds-put_word-start c = wrote_inside (wrote_then c.put_cleared-pre.ensures c.put_two.ensures) (simp length-append (omega (arith, fits (goal.at.slice_bounds-put_word-start c).After-marker-marker, eff-long (goal.at.slice_bounds-put_word-start c).After-marker-marker)))

pub put_word-requires : goal.put_word-requires
put_word-requires c = wrote_room (wrote_then c.put_cleared-pre.ensures c.put_two.ensures) (simp length-append (omega (arith, fits (goal.at.put_word-requires c).After-marker-marker, eff-long (goal.at.put_word-requires c).After-marker-marker)))

pub overflow_add-result : goal.overflow_add-result
overflow_add-result c = omega (arith, fits (goal.at.overflow_add-result c).After-marker-marker, eff-long (goal.at.overflow_add-result c).After-marker-marker, c.put_cleared-pre.ensures.count, c.put_two.ensures.count, c.put_word.ensures.count)

pub returns : goal.returns
returns c =
    wrote_start c.args.file.now c.args.at c.args.marks.n c.args.marks.a c.marker-marker.ensures c.requires.stands.2 c.word_at-weight.ensures.0
    (wrote_then (wrote_then c.put_cleared-pre.ensures c.put_two.ensures) c.put_word.ensures)
