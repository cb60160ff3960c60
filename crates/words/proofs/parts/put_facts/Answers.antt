-- `words::parts::put_facts` meets its contract: the fact of one variable, and those that are left.
use mathlib.Core.Path.{refl}
use Rattle.words.specs.WordLaws.{facts_bitwise, bits_more, bits_end}
use native.Mathlib.Omega.{arith}
use Rattle.words.proofs.parts.put_facts.Goals as goal

pub loop-v-preserved : goal.loop-v-preserved
loop-v-preserved c = (omega (arith, c.loop-v.invariant.0), bits_more c.loop-v.invariant.1 facts_bitwise refl refl refl c.loop-v-test.true c.put_fact.ensures)

pub returns : goal.returns
returns c = bits_end c.loop-v.invariant.1 c.loop-v-test.false
