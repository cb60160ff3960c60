-- `narrow::next_value` meets its contract: the bit, then the end of the file.
use Prim.Native.Nat.{◌%◌}
use mathlib.Core.Path.{◌∙◌}
use Rattle.facts.specs.AnswerLaws.{copied_at}
use Rattle.narrow.specs.LoopLaws.{next_stands}
use Rattle.narrow.proofs.next_value.Goals as goal

pub returns : goal.returns
returns c =
    let read = c.get.ensures.lookup in
    c.copied.ensures ∙ copied_at c.args.file.now c.args.at c.get.result read.0 read.1 ∙ next_stands (c.args.map % 2) _ c.if-map-eq0.false
