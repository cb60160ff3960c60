-- `partial::stray` meets its contract: what is left of the map above the variables is 0 or not. Assumes nothing.
use mathlib.Core.Path.{sym}
use borrow.Author.Tests.{lt-leb}
use native.Mathlib.Nat.{lt_of_lt_of_le}
use lib.Pow.{pow_mono}
use Rattle.partial.proofs.stray.Goals as goal

pub returns-then-n-ge64 : goal.returns-then-n-ge64
returns-then-n-ge64 c = sym (lt-leb _ _ (lt_of_lt_of_le c.ranges.map.fits (pow_mono c.if-n-ge64.true)))
