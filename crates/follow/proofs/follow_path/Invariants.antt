use Prim.Native.Nat.{suc, ◌-◌}
use Rattle.follow.specs.FollowLaws.{Tracing}
use Rattle.follow.proofs.follow_path.Given as goal

abbrev pub invariant-loop-k : goal.invariant-loop-k
invariant-loop-k l = Tracing l.file l.sizes l.nodes l.count l.state l.list l.from l.i l.cost l.k

abbrev pub decreases-loop-k : goal.decreases-loop-k
decreases-loop-k l = suc l.count - l.k
