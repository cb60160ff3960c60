use Rattle.steps.specs.Steps.{check_steps}
use Rattle.steps.specs.Seek.{names_in}
use Rattle.steps.specs.StepsLaws.{Checking}
use Rattle.steps.proofs.find.check_steps.Given as goal

abbrev pub invariant-loop-i : goal.invariant-loop-i
invariant-loop-i l = Checking (names_in l.file l.sizes l.count l.row) l.list (check_steps (names_in l.file l.sizes l.count l.row) 0 l.list) l.i
