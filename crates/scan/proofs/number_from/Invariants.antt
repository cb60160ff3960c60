use Prim.Native.Nat.{◌≤◌}
use mathlib.Core.Path.{◌≡◌}
use lib.ListN.{drop}
use Rattle.text.specs.Text.{within, numbers_from}
use Rattle.scan.proofs.number_from.Given as goal

abbrev pub invariant-loop-at : goal.invariant-loop-at
invariant-loop-at l = record {
  small : l.n ≤ l.most;
  same : numbers_from l.most (within 0 l.from) l.from (drop l.from l.text) ≡ numbers_from l.most (within l.n l.from) l.at (drop l.at l.text);
}
