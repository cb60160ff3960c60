use Prim.Native.Nat.{◌+◌, ◌*◌, ◌-◌}
use mathlib.Core.Path.{◌≡◌}
use Rattle.taskfile.specs.TaskFile.{edge_bytes}
use Rattle.taskfile.specs.InPlace.{targets_rise}
use Rattle.diagram.proofs.targets_rise.Given as goal

abbrev pub invariant-loop : goal.invariant-loop
invariant-loop l = (l.at ≡ l.from + edge_bytes * l.counter) × (targets_rise l.file l.levels l.v l.count l.from ≡ targets_rise l.file l.levels l.v (l.count - l.counter) l.at)
