use Rattle.arguments.specs.TableLaws.{Looking}
use Rattle.arguments.proofs.table.number_in.Given as goal

abbrev pub invariant-loop-at : goal.invariant-loop-at
invariant-loop-at l = Looking l.table l.word l.count l.from l.at
