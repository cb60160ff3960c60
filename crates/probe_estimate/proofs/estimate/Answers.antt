-- `probe_estimate::estimate` meets its contract: the file is refused, or it is estimated in an array that has room for its steps.
use mathlib.Core.Path.{sym, ap, ◌∙◌}
use Rattle.facts.specs.Read.{with_value}
use Rattle.facts.specs.AnswerLaws.{handed}
use Rattle.probefile.specs.IndexLaws.{count_fits}
use Rattle.estimate.specs.Number.{number}
use Rattle.probe_estimate.specs.EstimateLaws.{estimate_not_read}
use Rattle.probe_estimate.proofs.estimate.Goals as goal

pub returns-in_err-variables : goal.returns-in_err-variables
returns-in_err-variables c = ap (with_value number) (handed _ _ c.from_residual.ensures.1) ∙ sym (estimate_not_read _ _ c.in_err-variables.ensures)

pub estimate_in-requires-2 : goal.estimate_in-requires-2
estimate_in-requires-2 c =
    let known = c.in_ok-variables.ensures in
    (known.0, known.1, (count_fits _ known.0 known.1).0)
