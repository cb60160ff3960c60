-- `words::parts::put_partial` meets its contract: the map, and then its facts.
use mathlib.Core.Path.{sym}
use lib.ListN.{length}
use Rattle.facts.specs.FieldLaws.{number_read}
use Rattle.text.specs.WriterLaws.{appends_as}
use Rattle.words.specs.WordLaws.{partial_cut, partial_none, partial_some}
use native.Mathlib.Omega.{arith}
use Rattle.words.proofs.parts.put_partial.Goals.{in_default-via-in-Ok+else-map-ne0, in_default-via-in_default}
use Rattle.words.proofs.parts.put_partial.Goals as goal

pub overflow_add-place : goal.overflow_add-place
overflow_add-place c = omega (arith, (number_read c.args.file.now 8 c.args.place (sym c.in-Ok.ensures)).fits)

pub put_facts-requires : goal.put_facts-requires
put_facts-requires c = let a = c.args in (number_read a.file.now 8 a.place (sym c.in-Ok.ensures)).fits

pub returns-in-Ok : goal.returns-in-Ok
returns-in-Ok c = let a = c.args in appends_as (partial_some a.file.now (length a.sizes.now) a.place (sym c.in-Ok.ensures) c.if-map-ne0.true) c.put_facts.ensures

pub returns-in_default : goal.returns-in_default
returns-in_default c =
    let a = c.args in
    elim c.in_default.branch [
      | in_default-via-in-Ok+else-map-ne0 w ↦ appends_as (partial_none a.file.now (length a.sizes.now) a.place (sym w.in-Ok.ensures) (omega (arith, w.if-map-ne0.false))) c.append.ensures
      | in_default-via-in_default w ↦ appends_as (partial_cut a.file.now (length a.sizes.now) a.place (sym w.in_default.ensures)) c.append.ensures
    ]
