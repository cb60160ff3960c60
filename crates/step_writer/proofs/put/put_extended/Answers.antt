-- `step_writer::put::put_extended` meets its contract: the map with the further bits, the values as they stand, the further ones.
use Rattle.std.specs.Prelude.{◌+◌, ◌-◌, ◌≤◌, ◌≡◌, length}
use Rattle.std.proofs.Common.{refl, sym, ap, ◌∙◌, arith}
use Rattle.std.specs.Int.Count.{ones}
use Rattle.facts.specs.Partial.{partial_bytes, partial_at}
use Rattle.facts.specs.InPlaceLaws.{past_is}
use Rattle.facts.specs.Read.{accepted}
use Rattle.facts.specs.Answers.{answer}
use Rattle.facts.specs.Fields.{read_number}
use Rattle.facts.specs.FieldLaws.{number_reads}
use Rattle.step_writer.specs.PutLaws.{map_here, map_ones, ok_accepted, wrote_counted, extended_long, wrote_extended}
use Rattle.step_writer.proofs.put.put_extended.Goals as goal
use Rattle.step_writer.proofs.put.put_extended.Goals.{After-unwrap-map}

map_is : (c : goal.After-unwrap-map) → read_number c.args.file.now 8 c.args.at ≡ accepted c.unwrap-map.result
map_is c = sym c.read_map.ensures ∙ ap answer c.unwrap-map.ensures

-- it ends behind its map and a value for each standing bit
end_is : (c : goal.After-unwrap-map) → c.args.end ≡ c.args.at + (8 + ones c.unwrap-map.result)
end_is c =
    let f = c.args.file.now in
    let at = c.args.at in
    omega (arith, c.requires.end_value.0, past_is f at {n = partial_bytes (partial_at f at)} refl, map_ones f at (map_is c))

pub unwrap-map-requires : goal.unwrap-map-requires
unwrap-map-requires c =
    let f = c.args.file.now in
    let at = c.args.at in
    let fits : at + 8 ≤ length f = omega (arith, c.requires.end_value.0, c.requires.end_value.1, past_is f at {n = partial_bytes (partial_at f at)} refl) in
    ok_accepted c.read_map.result (c.read_map.ensures ∙ number_reads f 8 at fits)

pub overflow_add-map : goal.overflow_add-map
overflow_add-map c = omega (arith, c.requires.bits_bound, map_here c.args.file.now c.args.at (map_is (goal.at.overflow_add-map c).After-unwrap-map))

pub overflow_add-at : goal.overflow_add-at
overflow_add-at c = omega (arith, end_is (goal.at.overflow_add-at c).After-unwrap-map, c.requires.end_value.1)

pub slice_bounds-write_partial-count : goal.slice_bounds-write_partial-count
slice_bounds-write_partial-count c = omega (arith, end_is (goal.at.slice_bounds-write_partial-count c).After-unwrap-map)

pub slice_bounds-write_partial-start : goal.slice_bounds-write_partial-start
slice_bounds-write_partial-start c = omega (arith, end_is (goal.at.slice_bounds-write_partial-start c).After-unwrap-map)

pub overflow_sub-result : goal.overflow_sub-result
overflow_sub-result c = omega (arith, end_is (goal.at.overflow_sub-result c).After-unwrap-map)

pub returns : goal.returns
returns c =
    let f = c.args.file.now in
    let at = c.args.at in
    wrote_counted (extended_long f at c.args.bits c.args.further.now c.requires.end_value.0 c.requires.end_value.1)
    (wrote_extended f at c.args.bits {k = c.args.end - (at + 8)} c.args.further.now (map_is (goal.at.returns c).After-unwrap-map) (omega (arith, end_is (goal.at.returns c).After-unwrap-map)) c.requires.further_in_bounds c.write_partial.ensures)
