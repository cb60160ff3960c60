-- `words::parts::put_variables` meets its contract: one variable after the other.
use mathlib.Core.Path.{ap}
use Rattle.std.specs.Prelude.{get_or}
use Rattle.text.specs.WriterLaws.{appends_as}
use Rattle.words.specs.Show.{variable_text}
use Rattle.words.specs.RowLaws.{row_more, row_end}
use Rattle.words.proofs.parts.put_variables.Goals as goal

pub loop-v-preserved : goal.loop-v-preserved
loop-v-preserved c = row_more c.loop-v.invariant c.loop-v-test.true (appends_as (ap (variable_text c.loop-v.v (get_or c.args.sizes.now c.loop-v.v 0)) c.byte_at.ensures) c.put_variable.ensures)

pub returns : goal.returns
returns c = row_end c.loop-v.invariant c.loop-v-test.false
