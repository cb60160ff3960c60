-- `scan::number_from` meets its contract: one byte after the other, as the definition goes.
use mathlib.Core.Path.{refl, sym, ◌∙◌}
use native.Mathlib.Omega.{arith}
use Rattle.text.specs.ScanLaws.{digit_by, digit_large, digit_on, blank_on, byte_stray}
use Rattle.scan.proofs.number_from.Goals as goal

pub returns-then-is_blank-clause-text_value : goal.returns-then-is_blank-clause-text_value
returns-then-is_blank-clause-text_value c =
    c.loop-at.invariant.same ∙ blank_on _ _ _ _ c.loop-at-test.true (digit_by _ c.is_ascii_digit.ensures.value c.if-not-is_ascii_digit.true) (sym c.is_blank.ensures ∙ c.if-is_blank.true)

pub returns-else-is_blank-clause-text_value : goal.returns-else-is_blank-clause-text_value
returns-else-is_blank-clause-text_value c =
    c.loop-at.invariant.same ∙ byte_stray _ _ _ _ c.loop-at-test.true (digit_by _ c.is_ascii_digit.ensures.value c.if-not-is_ascii_digit.true) (sym c.is_blank.ensures ∙ c.if-is_blank.false)

pub returns-then-most-longer-clause-text_value : goal.returns-then-most-longer-clause-text_value
returns-then-most-longer-clause-text_value c =
    c.loop-at.invariant.same ∙ digit_large _ _ _ _ c.loop-at-test.true (digit_by _ c.is_ascii_digit.ensures.value c.if-not-is_ascii_digit.false) (omega arith)

pub loop-at-preserved : goal.loop-at-preserved
loop-at-preserved c = record {
  small = omega arith;
  same = c.loop-at.invariant.same ∙ digit_on _ _ _ _ c.loop-at-test.true (digit_by _ c.is_ascii_digit.ensures.value c.if-not-is_ascii_digit.false) refl (omega arith);
}
