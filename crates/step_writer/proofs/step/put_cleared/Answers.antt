-- `step_writer::step::put_cleared` meets its contract: two further facts at 0.
use mathlib.Core.Path.{refl}
use native.Mathlib.Omega.{arith}
use Rattle.facts.specs.Partial.{partial_bytes, partial_at}
use Rattle.facts.specs.InPlaceLaws.{past_is}
use Rattle.step_writer.proofs.step.put_cleared.Goals as goal

pub put_extended-requires-clause-end_value : goal.put_extended-requires-clause-end_value
put_extended-requires-clause-end_value c =
    let bits = c.two_bits.ensures in
    let p = partial_at c.args.file.now c.args.at in
    let n = c.args.marks.n in
    (c.requires.stands.1, omega (arith, c.requires.stands.1, c.requires.stands.0.fits, past_is c.args.file.now c.args.at {n = partial_bytes p} refl))
