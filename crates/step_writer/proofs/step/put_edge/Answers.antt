-- `step_writer::step::put_edge` meets its contract: two facts, one fact and the weight, each straight after the last.
use Prim.Native.Nat.{ℕ, ◌+◌, ◌-◌}
use mathlib.Core.Path.{◌≡◌, ◌∙◌}
use native.Mathlib.Omega.{arith}
use lib.ListN.{length, length-append}
use Rattle.facts.specs.Partial.{write_partial, empty}
use Rattle.facts.specs.PartialLaws.{length_written}
use Rattle.facts.specs.WriteLaws.{wrote_inside, wrote_room, wrote_then}
use Rattle.compilation.specs.Extend.{extend}
use Rattle.step_writer.specs.PutLaws.{edge_target, edge_weight, wrote_edge}
use Rattle.step_writer.proofs.step.put_edge.Goals as goal
use Rattle.step_writer.proofs.step.put_edge.Goals.{After-marker-marker}

-- the lengths of precondition and effect
two_long : (v x w y : ℕ) → length (write_partial (extend (extend empty v x) w y)) ≡ 10
two_long v x w y = length_written (extend (extend empty v x) w y)

one_long : (v x : ℕ) → length (write_partial (extend empty v x)) ≡ 9
one_long v x = length_written (extend empty v x)

two : (c : goal.After-marker-marker) → length (write_partial (extend (extend empty c.args.v c.args.d) c.marker-marker.result c.args.i)) ≡ 10
two c = two_long c.args.v c.args.d c.marker-marker.result c.args.i

one : (c : goal.After-marker-marker) → length (write_partial (extend empty c.marker-marker.result c.byte_at-target.result)) ≡ 9
one c = one_long c.marker-marker.result c.byte_at-target.result

pub slice_bounds-put_one-count : goal.slice_bounds-put_one-count
slice_bounds-put_one-count c = wrote_inside c.put_two-pre.ensures (omega (arith, two (goal.at.slice_bounds-put_one-count c).After-marker-marker, c.requires.in_bounds))

pub slice_bounds-put_one-start : goal.slice_bounds-put_one-start
slice_bounds-put_one-start c = wrote_inside c.put_two-pre.ensures (omega (arith, two (goal.at.slice_bounds-put_one-start c).After-marker-marker, c.requires.in_bounds))

pub put_one-requires : goal.put_one-requires
put_one-requires c = (omega (arith, c.marker-marker.ensures, c.args.marks.inside), wrote_room c.put_two-pre.ensures (omega (arith, two (goal.at.put_one-requires c).After-marker-marker, c.requires.in_bounds)))

pub overflow_add-eff : goal.overflow_add-eff
overflow_add-eff c = omega (arith, c.requires.in_bounds, c.put_two-pre.ensures.count, c.put_one.ensures.count, two (goal.at.overflow_add-eff c).After-marker-marker, one (goal.at.overflow_add-eff c).After-marker-marker)

pub slice_bounds-put_word-count : goal.slice_bounds-put_word-count
slice_bounds-put_word-count c = wrote_inside (wrote_then c.put_two-pre.ensures c.put_one.ensures) (simp length-append (omega (arith, two (goal.at.slice_bounds-put_word-count c).After-marker-marker, one (goal.at.slice_bounds-put_word-count c).After-marker-marker, c.requires.in_bounds)))

pub slice_bounds-put_word-start : goal.slice_bounds-put_word-start
slice_bounds-put_word-start c = wrote_inside (wrote_then c.put_two-pre.ensures c.put_one.ensures) (simp length-append (omega (arith, two (goal.at.slice_bounds-put_word-start c).After-marker-marker, one (goal.at.slice_bounds-put_word-start c).After-marker-marker, c.requires.in_bounds)))

pub put_word-requires : goal.put_word-requires
put_word-requires c = wrote_room (wrote_then c.put_two-pre.ensures c.put_one.ensures) (simp length-append (omega (arith, two (goal.at.put_word-requires c).After-marker-marker, one (goal.at.put_word-requires c).After-marker-marker, c.requires.in_bounds)))

pub overflow_add-result : goal.overflow_add-result
overflow_add-result c =
    let a = c.put_two-pre in
    let e = c.put_one in
    omega (arith, c.requires.in_bounds, a.ensures.count, e.ensures.count, c.put_word.ensures.count, two (goal.at.overflow_add-result c).After-marker-marker, one (goal.at.overflow_add-result c).After-marker-marker)

pub returns : goal.returns
returns c =
    let a = c.args in
    let f = a.file.now in
    let at = a.at in
    let k = at + 3 - at in
    wrote_edge f at a.marks.n a.marks.a a.i a.v a.d c.marker-marker.ensures (c.byte_at-target.ensures ∙ edge_target f at k (omega arith)) (c.word_at-weight.ensures.0 ∙ edge_weight f at k (omega arith) c.requires.v_lt_max_variables.1)
    (wrote_then (wrote_then c.put_two-pre.ensures c.put_one.ensures) c.put_word.ensures)
