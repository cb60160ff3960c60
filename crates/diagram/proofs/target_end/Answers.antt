-- `diagram::target_end` meets its contract: a target is one byte, and lies ahead. Assumes nothing.
use mathlib.Core.Path.{sym, ap, ◌∙◌}
use Rattle.facts.specs.Fields.{next_of}
use Rattle.taskfile.specs.TargetLaws.{target_ends, target_wrong, target_good}
use Rattle.diagram.proofs.target_end.Goals as goal

pub returns-then-file-at : goal.returns-then-file-at
returns-then-file-at c = sym (ap next_of (target_ends _ _ _ _ c.if-file-at.true))

pub returns-then-ahead : goal.returns-then-ahead
returns-then-ahead c = sym (ap next_of (target_good _ _ _ _ c.if-file-at.false (sym c.ahead.ensures ∙ c.if-ahead.true)))

pub returns : goal.returns
returns c = sym (ap next_of (target_wrong _ _ _ _ c.if-file-at.false (sym c.ahead.ensures ∙ c.if-ahead.false)))
