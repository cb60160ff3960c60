-- `measure::measure` meets its contract: the run tells how long the list is that expanding returns, and it is within the limit of probe lists.
use Rattle.std.proofs.Common.{sym, ap, ◌∙◌, arith}
use Rattle.facts.specs.AnswerLaws.{handed}
use Rattle.facts.specs.Read.{with_value}
use Rattle.carry.specs.LongList.{long_list}
use Rattle.measure.specs.declared.Measured.{Measured}
use Rattle.measure.specs.MeasureLaws.{measured_refused, measured_plan}
use Rattle.measure.proofs.measure.Goals as goal

pub returns-in_err-run : goal.returns-in_err-run
returns-in_err-run c =
    ap (with_value (λ (m : Measured). (record { cost = m.run.cost; passed = m.run.passed }, m.steps))) (handed _ _ c.from_residual.ensures.1) ∙ sym (measured_refused _ _ (sym c.in_err-run.ensures))

pub overflow_add-result : goal.overflow_add-result
overflow_add-result c = let l = long_list _ _ _ (sym c.in_ok-run.ensures) in omega (arith, l.few, l.exactly, l.most)

pub returns : goal.returns
returns c = sym (measured_plan _ _ (sym c.in_ok-run.ensures))
