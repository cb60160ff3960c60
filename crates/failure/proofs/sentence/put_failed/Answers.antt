-- `failure::sentence::put_failed` meets its contract: the fact of one variable, and those that are left.
use mathlib.Core.Path.{refl}
use Rattle.words.specs.WordLaws.{bits_more, bits_end}
use Rattle.failure.specs.FailureLaws.{failed_bitwise}
use native.Mathlib.Omega.{arith}
use Rattle.failure.proofs.sentence.put_failed.Goals as goal

pub loop-v-preserved : goal.loop-v-preserved
loop-v-preserved c = (omega (arith, c.loop-v.invariant.0), bits_more c.loop-v.invariant.1 (failed_bitwise c.args.state.now) refl refl refl c.loop-v-test.true c.put_fact.ensures)

pub returns : goal.returns
returns c = bits_end c.loop-v.invariant.1 c.loop-v-test.false
