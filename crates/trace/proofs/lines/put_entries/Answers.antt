-- `trace::lines::put_entries` meets its contract: one entry after the other, up to the first that does not apply.
use mathlib.Core.Path.{refl, sym, ◌∙◌}
use Rattle.trace.specs.TraceLaws.{left_past, left_stuck, left_went, left_end}
use native.Mathlib.Omega.{arith}
use Rattle.trace.proofs.lines.put_entries.Goals as goal

pub returns-in_default : goal.returns-in_default
returns-in_default c = left_past _ _ _ c.loop-i.invariant.2 c.loop-i-test.true (sym c.in_default.ensures)

pub returns-in_default-put_entry : goal.returns-in_default-put_entry
returns-in_default-put_entry c =
    left_stuck _ _ _ c.loop-i.invariant.2 c.loop-i-test.true (sym c.in-Ok.ensures) c.offset_at-place.ensures c.in_default-put_entry.ensures.entered refl

pub loop-i-preserved : goal.loop-i-preserved
loop-i-preserved c = (
  omega (arith, c.loop-i.invariant.0, c.in-Some.ensures.most),
  c.put_entry.auto.state ∙ c.loop-i.invariant.1,
  left_went _ _ _ c.loop-i.invariant.2 c.loop-i-test.true (sym c.in-Ok.ensures) c.offset_at-place.ensures c.in-Some.ensures.entered refl,
)

pub returns : goal.returns
returns c = left_end _ _ _ c.loop-i.invariant.2 c.loop-i-test.false
