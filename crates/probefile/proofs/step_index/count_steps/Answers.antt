-- `probefile::step_index::count_steps` meets its contract: the head, and then the step count.
use mathlib.Core.Path.{sym, ap, ◌∙◌}
use Rattle.facts.specs.Answers.{answer}
use Rattle.probefile.specs.IndexLaws.{probe_no_head, probe_no_count, counted_none}
use Rattle.probefile.proofs.step_index.count_steps.Goals as goal

pub returns-in-Err : goal.returns-in-Err
returns-in-Err c = probe_no_head _ (sym c.read_head.ensures ∙ ap answer c.in-Err.is)

pub returns-in_err-steps-in-Ok : goal.returns-in_err-steps-in-Ok
returns-in_err-steps-in-Ok c = counted_none _ _ _ c.from_residual.ensures.1 (probe_no_count _ (sym c.read_head.ensures ∙ ap answer c.in-Ok.is) (sym c.in_err-steps-in-Ok.ensures))
