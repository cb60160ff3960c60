use Rattle.taskfile.specs.PartsInPlace.{actions_in}
use Rattle.numbering.specs.NumberLaws.{Numbering}
use Rattle.numbering.proofs.number_steps.Given as goal

abbrev pub invariant-loop-a : goal.invariant-loop-a
invariant-loop-a l = Numbering (actions_in l.file l.sizes l.row 0 l.actions) l.row l.initial.first_step l.initial.first_edge l.first_step l.first_edge l.next l.a
