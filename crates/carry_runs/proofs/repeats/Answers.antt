-- `carry_runs::repeats`: 768 of the list's 771 entries are lent.
use mathlib.Core.Path.{sym}
use lib.Seq.{length-take-le}
use native.Mathlib.Omega.{arith}
use Rattle.carry_runs.proofs.repeats.Goals as goal

-- src/main.rt:64:25
pub slice_bounds-show_contracted-end : goal.slice_bounds-show_contracted-end
slice_bounds-show_contracted-end g c = sym (length-take-le 768 c.repeated-list.result (omega (arith, c.repeated-list.ensures)))

-- src/main.rt:67:41
pub slice_bounds-contract-end-2 : goal.slice_bounds-contract-end-2
slice_bounds-contract-end-2 g c = sym (length-take-le 768 c.repeated-list.result (omega (arith, c.repeated-list.ensures)))
