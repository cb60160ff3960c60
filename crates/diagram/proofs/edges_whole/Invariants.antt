use Prim.Native.Nat.{◌+◌, ◌*◌, ◌-◌, ◌≤◌}
use mathlib.Core.Path.{◌≡◌}
use lib.ListN.{length, drop}
use Rattle.facts.specs.Lists.{up_from}
use Rattle.facts.specs.Fields.{next_of, each}
use Rattle.taskfile.specs.TaskFile.{edge_bytes, read_edge, read_edges}
use Rattle.diagram.proofs.edges_whole.Given as goal

abbrev pub invariant-loop : goal.invariant-loop
invariant-loop l = (l.at + edge_bytes * (l.count - l.counter) ≤ length l.file) × (next_of (read_edges l.file l.m l.i l.count l.from) ≡ next_of (each (λ x. read_edge l.file l.m l.i) (drop l.counter (up_from 0 l.count)) l.at))
