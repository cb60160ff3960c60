-- `scan::next_number` meets its contract: past blanks to the first digit.
use mathlib.Core.Path.{sym, ◌∙◌}
use Rattle.text.specs.ScanLaws.{with_parsed_same, digit_by, digit_begins, blank_on, byte_stray}
use Rattle.scan.proofs.next_number.Goals as goal

pub returns-then-is_ascii_digit-clause-text_value : goal.returns-then-is_ascii_digit-clause-text_value
returns-then-is_ascii_digit-clause-text_value c =
    c.loop-at.invariant ∙ digit_begins _ _ _ c.loop-at-test.true (digit_by _ c.is_ascii_digit.ensures.value c.if-is_ascii_digit.true) ∙ c.number_from.ensures.text_value

pub returns-then-not-is_blank-clause-text_value : goal.returns-then-not-is_blank-clause-text_value
returns-then-not-is_blank-clause-text_value c =
    c.loop-at.invariant ∙ byte_stray _ _ _ _ c.loop-at-test.true (digit_by _ c.is_ascii_digit.ensures.value c.if-is_ascii_digit.false) (sym c.is_blank.ensures ∙ c.if-not-is_blank.true)

pub loop-at-preserved : goal.loop-at-preserved
loop-at-preserved c =
    c.loop-at.invariant
    ∙ blank_on _ _ _ _ c.loop-at-test.true (digit_by _ c.is_ascii_digit.ensures.value c.if-is_ascii_digit.false) (sym c.is_blank.ensures ∙ c.if-not-is_blank.false)
    ∙ with_parsed_same _
