-- `compiler::main`: what was written fits the buffer that was lent.
use mathlib.Core.Path.{sym}
use lib.Seq.{length-take-le}
use native.Mathlib.Omega.{arith}
use Rattle.compilation.specs.ProgramLaws.{answer_fits}
use Rattle.compiler.proofs.main.Goals as goal

-- src/main.rt:19:34
pub slice_bounds-output-end : goal.slice_bounds-output-end
slice_bounds-output-end c = omega (arith, answer_fits _ _ (sym c.in-Ok.ensures.result_value), c.compile.auto.out)

-- src/main.rt:19:34
pub slice_bounds-write_all-end : goal.slice_bounds-write_all-end
slice_bounds-write_all-end c = sym (length-take-le _ _ (omega (arith, answer_fits _ _ (sym c.in-Ok.ensures.result_value), c.compile.auto.out)))
