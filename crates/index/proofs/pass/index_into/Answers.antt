-- `index::pass::index_into` meets its contract: the head, and then the rest; an empty file has no head, and is the blank task.
use mathlib.Core.Path.{sym}
use native.Mathlib.Omega.{arith}
use Rattle.taskfile.specs.TaskIndexLaws.{task_blank, task_no_head}
use Rattle.index.proofs.pass.index_into.Goals as goal

pub returns-then-blank-clause-counted : goal.returns-then-blank-clause-counted
returns-then-blank-clause-counted c = (task_blank c.args.file.now {row = c.args.row.now} (omega (arith, c.if-blank.true))).0

pub returns-then-blank-clause-noted : goal.returns-then-blank-clause-noted
returns-then-blank-clause-noted c = (task_blank c.args.file.now (omega (arith, c.if-blank.true))).1

pub returns-else-blank-clause-counted : goal.returns-else-blank-clause-counted
returns-else-blank-clause-counted c = sym (task_no_head _ (omega (arith, c.if-blank.false)) (sym c.in-Err.ensures))
