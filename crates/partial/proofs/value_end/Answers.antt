-- `partial::value_end` meets its contract: a value is one byte, below its size. Assumes nothing.
use mathlib.Core.Path.{sym, ap}
use Rattle.facts.specs.Fields.{next_of}
use Rattle.facts.specs.FieldLaws.{value_ends, value_inside, value_outside}
use Rattle.partial.proofs.value_end.Goals as goal

pub returns-then-file-at : goal.returns-then-file-at
returns-then-file-at c = sym (ap next_of (value_ends _ _ _ c.if-file-at.true))

pub returns-then-file-at-2 : goal.returns-then-file-at-2
returns-then-file-at-2 c = sym (ap next_of (value_inside _ _ _ c.if-file-at.false c.if-file-at-2.true))

pub returns-else-file-at-2 : goal.returns-else-file-at-2
returns-else-file-at-2 c = sym (ap next_of (value_outside _ _ _ c.if-file-at.false c.if-file-at-2.false))
