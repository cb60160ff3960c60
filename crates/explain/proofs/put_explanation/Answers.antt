-- `explain::put_explanation` meets its contract: one part straight after the other.
use mathlib.Core.Path.{sym, ap}
use Rattle.report.specs.Report.{explanation}
use Rattle.text.specs.WriterLaws.{appends_as}
use Rattle.explain.proofs.put_explanation.Goals as goal

pub returns-in-Ends : goal.returns-in-Ends
returns-in-Ends c = appends_as (ap (explanation _) (sym c.in-Ends.is)) c.put_around.ensures

pub returns-in-Trailing : goal.returns-in-Trailing
returns-in-Trailing c = appends_as (ap (explanation _) (sym c.in-Trailing.is)) c.put_around-in-Trailing.ensures

pub returns-in-Diagram : goal.returns-in-Diagram
returns-in-Diagram c = appends_as (ap (explanation _) (sym c.in-Diagram.is)) c.put_around-in-Diagram.ensures

pub returns-in-Blocked : goal.returns-in-Blocked
returns-in-Blocked c = appends_as (ap (explanation _) (sym c.in-Blocked.is)) c.put_around-in-Blocked.ensures

pub returns-in-Width : goal.returns-in-Width
returns-in-Width c = appends_as (ap (explanation _) (sym c.in-Width.is)) c.append.ensures
