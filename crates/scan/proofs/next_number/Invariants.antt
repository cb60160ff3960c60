use mathlib.Core.Path.{◌≡◌}
use lib.ListN.{drop}
use Rattle.text.specs.Text.{between, numbers_from}
use Rattle.scan.proofs.next_number.Given as goal

abbrev pub invariant-loop-at : goal.invariant-loop-at
invariant-loop-at l = numbers_from l.most between l.from (drop l.from l.text) ≡ numbers_from l.most between l.at (drop l.at l.text)
