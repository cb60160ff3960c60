-- `step_writer::put::put_two` meets its contract: a map with two bits, and two values.
use mathlib.Core.Path.{◌≡◌, sym}
use native.Mathlib.Omega.{arith}
use lib.ListN.{length, take}
use lib.Seq.{length-take-le}
use Rattle.facts.specs.Partial.{empty}
use Rattle.facts.specs.PartialLaws.{length_written}
use Rattle.compilation.specs.Extend.{extend}
use Rattle.step_writer.specs.PutLaws.{wrote_front, wrote_two}
use Rattle.step_writer.proofs.put.put_two.Goals as goal
use Rattle.step_writer.proofs.put.put_two.Goals.{Start}

-- the front that is lent
front : (c : goal.Start) → 10 ≡ length (take 10 c.args.out.now)
front c = sym (length-take-le 10 c.args.out.now c.requires.2)

pub returns : goal.returns
returns c =
    wrote_front (sym (length_written (extend (extend empty c.args.v c.args.x) c.args.w c.args.y))) c.requires.2
    (wrote_two c.args.v c.args.w c.args.x c.args.y c.two_bits.ensures.0 (omega (arith, front (goal.at.returns c).Start)) c.write_partial.ensures)
