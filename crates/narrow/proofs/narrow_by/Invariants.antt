use Rattle.facts.specs.Partial.{standing_at}
use Rattle.narrow.specs.LoopLaws.{Going, Reading}
use Rattle.narrow.proofs.narrow_by.Given as goal

abbrev pub invariant-loop-v : goal.invariant-loop-v
invariant-loop-v l = Going (standing_at l.file l.map l.values) l.sets l.copy l.v × Reading l.map l.values l.v l.rest l.at
