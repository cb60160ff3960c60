-- `arguments::words::put_what` meets its contract: one part straight after the other.
use mathlib.Core.Path.{sym, ap}
use Rattle.arguments.specs.Arguments.{what_text}
use Rattle.text.specs.WriterLaws.{appends_as, appends_then}
use Rattle.arguments.proofs.words.put_what.Goals as goal

pub returns-in-Option : goal.returns-in-Option
returns-in-Option c = appends_as (ap (what_text _) (sym c.in-Option.is)) (appends_then c.append.ensures c.append-in-Option.ensures)

pub returns-in-Missing : goal.returns-in-Missing
returns-in-Missing c = appends_as (ap (what_text _) (sym c.in-Missing.is)) (appends_then c.put_name.ensures c.append-in-Missing.ensures)

pub returns-in-Long : goal.returns-in-Long
returns-in-Long c = appends_as (ap (what_text _) (sym c.in-Long.is)) (appends_then c.put_name-in-Long.ensures c.append-in-Long.ensures)

pub returns-in-Many : goal.returns-in-Many
returns-in-Many c = appends_as (ap (what_text _) (sym c.in-Many.is)) (appends_then c.append-in-Many.ensures c.append-in-Many-2.ensures)

pub returns-in-Twice : goal.returns-in-Twice
returns-in-Twice c = appends_as (ap (what_text _) (sym c.in-Twice.is)) (appends_then c.put_name-in-Twice.ensures (appends_then c.append-in-Twice.ensures (appends_then c.put_name-in-Twice-2.ensures c.append-in-Twice-2.ensures)))
