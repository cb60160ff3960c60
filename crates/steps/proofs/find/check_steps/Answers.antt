-- `steps::find::check_steps` meets its contract: one entry after the other.
use Rattle.steps.specs.StepsLaws.{checking_on, checking_stops, checking_end}
use mathlib.Core.Path.{sym, ◌∙◌}
use Rattle.steps.proofs.find.check_steps.Goals as goal

pub returns-then-is_err : goal.returns-then-is_err
returns-then-is_err c = checking_stops _ c.loop-i.invariant c.find_step.result c.loop-i-test.true c.find_step.ensures (sym c.is_err.ensures.value ∙ c.if-is_err.true)

pub loop-i-preserved : goal.loop-i-preserved
loop-i-preserved c = checking_on _ c.loop-i.invariant c.find_step.result c.loop-i-test.true c.find_step.ensures (sym c.is_err.ensures.value ∙ c.if-is_err.false)

pub returns : goal.returns
returns c = checking_end _ c.loop-i.invariant c.loop-i-test.false
