-- `partial::lowest_bit` meets its contract: below the lowest standing bit there are as many zeros as the machine counts. Assumes nothing.
use lib.Count.{trailing_le}
use Rattle.partial.proofs.Bits.{lowest}
use native.Mathlib.Omega.{arith}
use Rattle.partial.proofs.lowest_bit.Goals as goal

pub returns : goal.returns
returns c = record { stands = λ l. lowest 64 c.args.map (omega arith) c.ranges.map.fits; none = λ e. absurd (omega arith); most = trailing_le 64 c.args.map }
