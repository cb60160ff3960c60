-- `walk::effect_at` meets its contract: the effect stands past the precondition, and past the end of the file all offsets are alike. Assumes nothing.
use Rattle.facts.specs.Partial.{equal}
use Rattle.facts.specs.InPlaceLaws.{past_is}
use Rattle.taskfile.specs.WalkInPlaceLaws.{effect_none}
use Rattle.walk.proofs.effect_at.Goals as goal

pub returns-then-file-at : goal.returns-then-file-at
returns-then-file-at c = let a = c.args in effect_none a.file.now a.at c.if-file-at.true

pub returns : goal.returns
returns c = let a = c.args in equal (past_is a.file.now a.at c.length_at.ensures.0)
