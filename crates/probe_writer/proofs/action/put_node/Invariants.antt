use Prim.Native.Nat.{◌+◌, ◌*◌}
use mathlib.Core.Path.{◌≡◌}
use Rattle.facts.specs.Fields.{write_each}
use Rattle.probefile.specs.ProbeFile.{write_step}
use Rattle.compilation.specs.Compile.{map_from, edge_step}
use Rattle.taskfile.specs.PartsInPlace.{edges_in}
use Rattle.facts.specs.WriteRowLaws.{Going}
use Rattle.probe_writer.specs.InPlaceLaws.{steps_from}
use Rattle.probe_writer.proofs.action.put_node.Given as goal

abbrev pub invariant-loop-d : goal.invariant-loop-d
invariant-loop-d l = (l.edge ≡ l.node + 1 + 3 * l.d)
    × Going (write_each write_step (map_from (edge_step l.n l.a l.i l.v) 0 (edges_in l.file (l.node + 1) l.count))) (steps_from l.file l.n l.a l.i l.v l.count l.d l.edge) l.initial.out l.out l.at
