use Prim.Native.Nat.{◌-◌}
use lib.ListN.{length}
use Rattle.text.specs.TokenLaws.{Counting}
use Rattle.scan.proofs.scan.Given as goal

abbrev pub invariant-loop-end : goal.invariant-loop-end
invariant-loop-end l = Counting l.most l.text l.at l.count

abbrev pub decreases-loop-end : goal.decreases-loop-end
decreases-loop-end l = length l.text - l.at
