use Rattle.text.specs.PlaceLaws.{Placing}
use Rattle.scan.proofs.place.place_after.Given as goal

abbrev pub invariant-loop-b : goal.invariant-loop-b
invariant-loop-b l = Placing l.bytes l.line l.entry l.inside l.b-index
