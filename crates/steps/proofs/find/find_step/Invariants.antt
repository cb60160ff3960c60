use Rattle.steps.specs.Seek.{seek, names_in}
use Rattle.steps.specs.SeekLaws.{Seeking, part_of}
use Rattle.steps.proofs.find.find_step.Given as goal

abbrev pub invariant-loop-a : goal.invariant-loop-a
invariant-loop-a l = Seeking (part_of l.file l.sizes l.row) (seek (names_in l.file l.sizes l.count l.row) l.k) l.a l.count l.left
