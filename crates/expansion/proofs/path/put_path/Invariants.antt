use Prim.Native.Nat.{suc, ◌-◌}
use Rattle.numbering.specs.ActionLaws.{Passing}
use Rattle.expansion.proofs.path.put_path.Given as goal

abbrev pub invariant-loop-k : goal.invariant-loop-k
invariant-loop-k l = Passing l.file l.sizes l.nodes l.count l.state l.steps.first l.initial.out l.out l.written l.cost l.k

abbrev pub decreases-loop-k : goal.decreases-loop-k
decreases-loop-k l = suc l.count - l.k
