-- `facts::number::read_word` meets its contract: the file has the 2 bytes, or it ends before.
use mathlib.Core.Path.{sym, ap, ◌∙◌}
use borrow.Author.Tests.{ltb-true, ltb-false}
use native.Mathlib.Omega.{arith}
use Rattle.facts.specs.Read.{accepted}
use Rattle.facts.specs.BytesLaws.{number_two}
use Rattle.facts.specs.FieldLaws.{number_ends, number_reads}
use Rattle.facts.proofs.number.read_word.Goals as goal

pub returns-then-lacks : goal.returns-then-lacks
returns-then-lacks c = sym (number_ends _ _ _ (ltb-true _ _ (sym c.lacks.ensures ∙ c.if-lacks.true)))

pub returns : goal.returns
returns c =
    let fits = ltb-false _ _ (sym c.lacks.ensures ∙ c.if-lacks.false) in
    ap accepted (omega (arith, c.from.ensures, c.from_le_bytes.ensures, number_two c.args.file.now c.args.at fits)) ∙ sym (number_reads _ 2 _ fits)
