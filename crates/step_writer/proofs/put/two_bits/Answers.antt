-- `step_writer::put::two_bits` meets its contract: two bits below 57 fit in 58.
use native.Mathlib.Omega.{arith}
use Rattle.step_writer.specs.PutLaws.{power_small}
use Rattle.step_writer.proofs.put.two_bits.Goals as goal

pub overflow_add-result : goal.overflow_add-result
overflow_add-result c = omega (arith, c.bit.ensures, c.bit-2.ensures, power_small c.requires.0, power_small c.requires.1)

pub returns : goal.returns
returns c = (omega (arith, c.bit.ensures, c.bit-2.ensures), omega (arith, c.bit.ensures, c.bit-2.ensures, power_small c.requires.0, power_small c.requires.1))
