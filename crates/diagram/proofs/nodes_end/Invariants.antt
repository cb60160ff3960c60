use Prim.Native.Nat.{ℕ, ◌≤◌, ◌<◌}
use mathlib.Core.Path.{◌≡◌}
use lib.ListN.{length, drop, get_or}
use Rattle.facts.specs.Read.{accepted}
use Rattle.facts.specs.Lists.{up_from}
use Rattle.facts.specs.Fields.{next_of, each}
use Rattle.taskfile.specs.Task.{max_nodes}
use Rattle.taskfile.specs.TaskFile.{read_node, read_nodes}
use Rattle.taskfile.specs.InPlace.{Levels, read_first}
use Rattle.diagram.proofs.nodes_end.Given as goal

abbrev pub invariant-loop-j : goal.invariant-loop-j
invariant-loop-j l = (length l.offsets ≡ length l.initial.offsets) × (next_of (read_nodes l.file l.sizes l.m l.from) ≡ next_of (each (read_node l.file l.sizes l.m) (drop l.j (up_from 1 l.m)) l.at))
    × (next_of (read_first l.file l.sizes l.m l.j l.from) ≡ accepted l.at) × ((k : ℕ) → k < l.j → next_of (read_first l.file l.sizes l.m k l.from) ≡ accepted (get_or l.offsets k 0))
    × (length l.levels ≡ length l.initial.levels) × Levels l.file l.j l.offsets l.levels × ((k : ℕ) → l.m ≤ k → k < max_nodes → get_or l.offsets k 0 ≡ get_or l.initial.offsets k 0)
