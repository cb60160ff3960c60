-- `describe::task::put_target` meets its contract: one test.
use Rattle.text.specs.WriterLaws.{appends_as}
use Rattle.words.specs.ShowLaws.{target_node, target_end}
use Rattle.describe.proofs.task.put_target.Goals as goal

pub returns-then-node : goal.returns-then-node
returns-then-node c = appends_as (target_node c.args.m c.args.target c.if-node.true) c.put_numbered.ensures

pub returns-else-node : goal.returns-else-node
returns-else-node c = appends_as (target_end c.args.m c.args.target c.if-node.false) c.append.ensures
