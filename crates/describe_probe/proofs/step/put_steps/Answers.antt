-- `describe_probe::step::put_steps` meets its contract: one step after the other.
use Rattle.words.specs.RowLaws.{row_more, row_end}
use Rattle.describe_probe.proofs.step.put_steps.Goals as goal

pub loop-k-preserved : goal.loop-k-preserved
loop-k-preserved c = row_more c.loop-k.invariant c.loop-k-test.true c.put_step.ensures

pub returns : goal.returns
returns c = row_end c.loop-k.invariant c.loop-k-test.false
