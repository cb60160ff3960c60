-- `step_writer::put::put_one` meets its contract: a map with one bit, and one value.
use mathlib.Core.Path.{◌≡◌, sym}
use native.Mathlib.Omega.{arith}
use lib.ListN.{length, take}
use lib.Seq.{length-take-le}
use Rattle.facts.specs.Partial.{empty}
use Rattle.facts.specs.PartialLaws.{length_written}
use Rattle.compilation.specs.Extend.{extend}
use Rattle.step_writer.specs.PutLaws.{wrote_front, wrote_one}
use Rattle.step_writer.proofs.put.put_one.Goals as goal
use Rattle.step_writer.proofs.put.put_one.Goals.{Start}

-- the front that is lent
front : (c : goal.Start) → 9 ≡ length (take 9 c.args.out.now)
front c = sym (length-take-le 9 c.args.out.now c.requires.1)

pub returns : goal.returns
returns c =
    wrote_front (sym (length_written (extend empty c.args.v c.args.x))) c.requires.1
    (wrote_one c.args.v c.args.x c.bit.ensures (omega (arith, front (goal.at.returns c).Start)) c.write_partial.ensures)
