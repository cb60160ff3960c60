-- `scan::place::place` meets its contract: the bytes before the offset are counted. Assumes nothing.
use Rattle.text.specs.PlaceLaws.{line_within, entry_within}
use Rattle.scan.proofs.place.place.Goals as goal

pub returns-clause-line_value : goal.returns-clause-line_value
returns-clause-line_value c =
    let text = c.args.text.now in
    let n = c.within.ensures.value in
    line_within _ text n c.place_after.ensures.line_value

pub returns-clause-result_value : goal.returns-clause-result_value
returns-clause-result_value c =
    let text = c.args.text.now in
    let n = c.within.ensures.value in
    entry_within _ text n c.place_after.ensures.result_value
