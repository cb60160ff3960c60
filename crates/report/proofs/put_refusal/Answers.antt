-- `report::put_refusal` meets its contract: number and place are those of the document.
use mathlib.Core.Path.{ap₂}
use mathlib.Core.List.{◌++◌}
use Rattle.text.specs.WriterLaws.{appends_as, appends_then}
use Rattle.report.specs.Report.{around}
use Rattle.report.proofs.put_refusal.Goals as goal

pub returns : goal.returns
returns c = appends_as (ap₂ (λ n p. around "refused " n " at " ++ around "" p "\n") c.number.ensures c.place.ensures) (appends_then c.put_around.ensures c.put_around-2.ensures)
