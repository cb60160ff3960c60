-- `price::settled` meets its contract: from the rank for never on, and below it.
use mathlib.Core.Path.{sym, ◌∙◌}
use Rattle.relaxation.specs.SumsLaws.{settled_low, settled_high}
use Rattle.price.proofs.settled.Goals as goal

pub returns-then-sum-ge-FAR : goal.returns-then-sum-ge-FAR
returns-then-sum-ge-FAR c = sym (settled_high _ c.if-sum-ge-FAR.true)

pub returns : goal.returns
returns c = c.min.ensures ∙ sym (settled_low _ c.if-sum-ge-FAR.false)
