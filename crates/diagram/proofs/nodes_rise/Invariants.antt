use Prim.Native.Nat.{◌-◌}
use mathlib.Core.Path.{◌≡◌}
use Rattle.taskfile.specs.InPlace.{nodes_rise}
use Rattle.diagram.proofs.nodes_rise.Given as goal

abbrev pub invariant-loop-j : goal.invariant-loop-j
invariant-loop-j l = nodes_rise l.file l.sizes l.offsets l.levels 0 l.m ≡ nodes_rise l.file l.sizes l.offsets l.levels l.j (l.m - l.j)
