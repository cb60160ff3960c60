use Prim.Native.Nat.{◌≤◌}
use Rattle.line_writer.specs.ColumnLaws.{Putting}
use Rattle.line_writer.proofs.line.Pairs.put_number.Given as goal

abbrev pub invariant-loop-rest : goal.invariant-loop-rest
invariant-loop-rest l = (l.at ≤ l.end) × Putting l.n l.end l.initial.line l.line l.at l.rest

abbrev pub decreases-loop-rest : goal.decreases-loop-rest
decreases-loop-rest l = l.rest
