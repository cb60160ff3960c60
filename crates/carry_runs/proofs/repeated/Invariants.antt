-- `carry_runs::repeated`: three entries a turn, 257 turns, and the array keeps its length.
use Rattle.std.proofs.Common.{◌≡◌, length}
use Rattle.carry_runs.proofs.repeated.Given as goal

abbrev pub invariant-loop-i : goal.invariant-loop-i
invariant-loop-i l = length l.list ≡ 771
