-- `narrow::value_alone` meets its contract: a byte has no bit from 8 on, and one bit below stays in it.
use mathlib.Core.Path.{sym}
use Rattle.relaxation.specs.KeptLaws.{alone_beyond}
use Rattle.narrow.proofs.value_alone.Goals as goal

pub returns-then-d-ge8 : goal.returns-then-d-ge8
returns-then-d-ge8 c = sym (alone_beyond c.args.set c.args.d c.ranges.set.fits c.if-d-ge8.true)
