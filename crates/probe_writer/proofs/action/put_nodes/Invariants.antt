use lib.ListN.{length}
use Rattle.facts.specs.Fields.{write_each}
use Rattle.probefile.specs.ProbeFile.{write_step}
use Rattle.compilation.specs.Compile.{flat, node_steps}
use Rattle.taskfile.specs.PartsInPlace.{nodes_in}
use Rattle.facts.specs.WriteRowLaws.{Going}
use Rattle.probe_writer.specs.InPlaceLaws.{nodes_from}
use Rattle.probe_writer.proofs.action.put_nodes.Given as goal

abbrev pub invariant-loop-j : goal.invariant-loop-j
invariant-loop-j l = Going (write_each write_step (flat (node_steps (length l.sizes) l.a) 1 (nodes_in l.file l.sizes l.nodes 0 l.count))) (nodes_from l.file l.sizes l.nodes (length l.sizes) l.a l.count l.j) l.initial.out l.out l.at
