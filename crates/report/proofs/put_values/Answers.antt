-- `report::put_values` meets its contract: each value after a space, and what is left of the state.
use mathlib.Core.Path.{ap}
use lib.ListN.{get_or, drop_of_length-le}
use Rattle.text.specs.WriterLaws.{adding_more, adding_end, part_next}
use Rattle.report.specs.Report.{around, values_text}
use Rattle.report.proofs.put_values.Goals as goal

pub loop-value-preserved : goal.loop-value-preserved
loop-value-preserved c =
    let state = c.args.state.now in
    let l = c.loop-value in
    adding_more (around " " (get_or state l.value-index 0) "") _ l.invariant (ap values_text (part_next state l.value-index c.loop-value-test.true)) c.put_around.ensures

pub returns : goal.returns
returns c = adding_end c.loop-value.invariant (ap values_text (drop_of_length-le c.args.state.now c.loop-value-test.false))
