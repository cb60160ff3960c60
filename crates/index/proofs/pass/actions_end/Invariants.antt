use mathlib.Core.Path.{◌≡◌}
use lib.ListN.{length}
use Rattle.taskfile.specs.IndexLaws.{Going}
use Rattle.index.proofs.pass.actions_end.Given as goal

abbrev pub invariant-loop-a : goal.invariant-loop-a
invariant-loop-a l = (length l.row ≡ length l.initial.row) × Going l.file l.sizes l.a l.from l.at l.used l.row
