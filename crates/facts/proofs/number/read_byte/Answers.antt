-- `facts::number::read_byte` meets its contract: a byte is the number of one byte. Assumes nothing.
use mathlib.Core.Path.{sym, ap, ◌∙◌}
use borrow.Author.Tests.{ltb-true, ltb-false}
use Rattle.facts.specs.Read.{accepted}
use Rattle.facts.specs.BytesLaws.{number_one}
use Rattle.facts.specs.FieldLaws.{number_ends, number_reads}
use native.Mathlib.Omega.{arith}
use Rattle.facts.proofs.number.read_byte.Goals as goal

pub returns-in-Some : goal.returns-in-Some
returns-in-Some c =
    let a = c.args in
    let e = c.in-Some.ensures.lookup in
    let inside = ltb-true _ _ (sym e.0) in
    ap accepted (c.from.ensures ∙ e.3.1 0 ∙ sym (number_one a.file.now a.at inside)) ∙ sym (number_reads a.file.now 1 a.at (omega (arith, inside)))

pub returns-in-None : goal.returns-in-None
returns-in-None c =
    let outside = ltb-false _ _ (sym c.in-None.ensures.lookup.0) in
    sym (number_ends c.args.file.now 1 c.args.at (omega (arith, outside)))
