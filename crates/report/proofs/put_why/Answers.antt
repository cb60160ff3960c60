-- `report::put_why` meets its contract: one part straight after the other.
use mathlib.Core.Path.{sym, ap}
use Rattle.report.specs.Report.{why_text}
use Rattle.text.specs.WriterLaws.{appends_as, appends_then}
use Rattle.report.proofs.put_why.Goals as goal

pub returns-in-Stray : goal.returns-in-Stray
returns-in-Stray c = appends_as (ap why_text (sym c.in-Stray.is)) (appends_then c.put_place.ensures c.append.ensures)

pub returns-in-Large : goal.returns-in-Large
returns-in-Large c = appends_as (ap why_text (sym c.in-Large.is)) (appends_then c.put_place-in-Large.ensures c.put_around.ensures)

pub returns-in-NotOne : goal.returns-in-NotOne
returns-in-NotOne c = appends_as (ap why_text (sym c.in-NotOne.is)) c.append-in-NotOne.ensures
