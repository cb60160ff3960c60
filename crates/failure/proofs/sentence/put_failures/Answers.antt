-- `failure::sentence::put_failures` meets its contract: the map, and then its facts.
use mathlib.Core.Path.{sym}
use Rattle.facts.specs.FieldLaws.{number_read}
use Rattle.text.specs.WriterLaws.{appends_none, appends_as}
use Rattle.failure.specs.FailureLaws.{failures_cut, failures_here}
use native.Mathlib.Omega.{arith}
use Rattle.failure.proofs.sentence.put_failures.Goals as goal

pub overflow_add-place : goal.overflow_add-place
overflow_add-place c = omega (arith, (number_read c.args.file.now 8 c.args.place (sym c.in-Ok.ensures)).fits)

pub put_failed-requires : goal.put_failed-requires
put_failed-requires c = (number_read c.args.file.now 8 c.args.place (sym c.in-Ok.ensures)).fits

pub returns-in-Ok : goal.returns-in-Ok
returns-in-Ok c = let a = c.args in appends_as (failures_here a.file.now a.place a.state.now (sym c.in-Ok.ensures)) c.put_failed.ensures

pub returns-in_default : goal.returns-in_default
returns-in_default c = let a = c.args in appends_as (failures_cut a.file.now a.place a.state.now (sym c.in_default.ensures)) (appends_none a.out.now)
