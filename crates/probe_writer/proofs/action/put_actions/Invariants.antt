use lib.ListN.{length}
use Rattle.facts.specs.Fields.{write_each}
use Rattle.probefile.specs.ProbeFile.{write_step}
use Rattle.compilation.specs.Compile.{flat, action_steps}
use Rattle.taskfile.specs.PartsInPlace.{actions_in}
use Rattle.facts.specs.WriteRowLaws.{Going}
use Rattle.probe_writer.specs.InPlaceLaws.{actions_from}
use Rattle.probe_writer.proofs.action.put_actions.Given as goal

abbrev pub invariant-loop-a : goal.invariant-loop-a
invariant-loop-a l = Going (write_each write_step (flat (action_steps (length l.sizes)) 0 (actions_in l.file l.sizes l.row 0 l.count))) (actions_from l.file l.sizes l.row l.count l.a) l.initial.out l.out l.at
