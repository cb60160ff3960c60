-- `offers::rounds::settle` meets its contract: the array has room for all facts of the file, and is fresh.
use native.Mathlib.Omega.{arith}
use Rattle.std.proofs.lemmas.List.{length-replicate}
use Rattle.estimate.specs.RanksLaws.{roomy_same, fresh_filled}
use Rattle.offers.proofs.rounds.settle.Goals as goal

pub settle_in-requires-clause-room : goal.settle_in-requires-clause-room
settle_in-requires-clause-room g c = roomy_same c.requires.room (length-replicate g.row.PLACES _)

pub settle_in-requires-clause-fresh : goal.settle_in-requires-clause-fresh
settle_in-requires-clause-fresh g c = fresh_filled g.row.PLACES _ (omega arith)
