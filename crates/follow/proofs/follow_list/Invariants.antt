use Prim.Native.Nat.{◌-◌}
use lib.ListN.{length}
use Rattle.facts.specs.Partial.{partial_at}
use Rattle.follow.specs.FollowLaws.{Following}
use Rattle.follow.proofs.follow_list.Given as goal

abbrev pub invariant-loop-i : goal.invariant-loop-i
invariant-loop-i l = Following l.file l.sizes l.actions l.row (partial_at l.file l.goal) l.list l.initial.state l.initial.plan l.plan l.state l.i l.sum l.count

abbrev pub decreases-loop-i : goal.decreases-loop-i
decreases-loop-i l = length l.list - l.i
