-- `report::put_estimate` meets its contract: one part straight after the other.
use mathlib.Core.Path.{sym, ap}
use Rattle.report.specs.Report.{estimate_text}
use Rattle.text.specs.WriterLaws.{appends_as}
use Rattle.report.proofs.put_estimate.Goals as goal

pub returns-in-Over : goal.returns-in-Over
returns-in-Over c = appends_as (ap estimate_text (sym c.in-Over.is)) c.append-in-Over.ensures
