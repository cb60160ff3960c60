use Prim.Native.Nat.{◌+◌, ◌*◌, ◌-◌, ◌≤◌}
use mathlib.Core.Path.{◌≡◌}
use Rattle.facts.specs.Lists.{total}
use Rattle.compilation.specs.Compile.{edge_count}
use Rattle.taskfile.specs.PartsInPlace.{nodes_in}
use Rattle.probe_writer.proofs.length.edge_count.Given as goal

abbrev pub invariant-loop-j : goal.invariant-loop-j
invariant-loop-j l = (l.edges ≤ 255 * l.j) × (total edge_count (nodes_in l.file l.sizes l.nodes 0 l.count) ≡ l.edges + total edge_count (nodes_in l.file l.sizes l.nodes (0 + l.j) (l.count - l.j)))
