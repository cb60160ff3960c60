-- `probefile::step_index::index_steps` meets its contract: steps and end, each refusal where it stands.
use mathlib.Core.Path.{sym, ◌∙◌}
use Rattle.facts.specs.AnswerLaws.{handed}
use Rattle.facts.specs.HeadLaws.{headed_fits}
use Rattle.probefile.specs.Probe.{max_variables, max_values}
use Rattle.probefile.specs.IndexLaws.{count_fits, probe_no_steps, probe_trailing, probe_good, located, located_none}
use native.Mathlib.Omega.{arith}
use Rattle.probefile.proofs.step_index.index_steps.Goals as goal

pub overflow_add-sizes_end : goal.overflow_add-sizes_end
overflow_add-sizes_end c = omega (arith, headed_fits _ max_variables max_values c.requires.0)

pub overflow_add-at : goal.overflow_add-at
overflow_add-at c = omega (arith, count_fits _ c.requires.0 c.requires.1)

pub slice_bounds-steps_end-end : goal.slice_bounds-steps_end-end
slice_bounds-steps_end-end c = omega (arith, headed_fits _ max_variables max_values c.requires.0)

pub returns-in_err-end-clause-counted : goal.returns-in_err-end-clause-counted
returns-in_err-end-clause-counted c = handed _ _ c.from_residual.ensures.1 ∙ sym (probe_no_steps c.args.file.now c.requires.0 c.requires.1 (omega arith) (sym c.in_err-end.ensures.past))

pub returns-in_err-end-clause-located : goal.returns-in_err-end-clause-located
returns-in_err-end-clause-located c = located_none c.args.file.now _ (probe_no_steps c.args.file.now c.requires.0 c.requires.1 (omega arith) (sym c.in_err-end.ensures.past))

pub returns-then-end-file-clause-counted : goal.returns-then-end-file-clause-counted
returns-then-end-file-clause-counted c = sym (probe_trailing c.args.file.now c.requires.0 c.requires.1 (omega arith) (sym c.in_ok-end.ensures.past) c.if-end-file.true)

pub returns-then-end-file-clause-located : goal.returns-then-end-file-clause-located
returns-then-end-file-clause-located c = located_none c.args.file.now _ (probe_trailing c.args.file.now c.requires.0 c.requires.1 (omega arith) (sym c.in_ok-end.ensures.past) c.if-end-file.true)

pub returns-clause-counted : goal.returns-clause-counted
returns-clause-counted c = sym (probe_good c.args.file.now c.requires.0 c.requires.1 (omega arith) (sym c.in_ok-end.ensures.past) c.if-end-file.false)

pub returns-clause-located : goal.returns-clause-located
returns-clause-located c = located c.args.file.now c.requires.0 c.requires.1 (omega arith) (sym c.in_ok-end.ensures.past) c.if-end-file.false _ c.in_ok-end.ensures.marked
