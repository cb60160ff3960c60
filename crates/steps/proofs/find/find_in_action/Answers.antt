-- `steps::find::find_in_action` meets its contract: the start, the steps of the nodes, the end.
use mathlib.Core.Path.{sym}
use Rattle.steps.specs.SeekLaws.{action_found, action_end, action_past}
use Rattle.steps.proofs.find.find_in_action.Goals as goal

pub returns-in-Ok : goal.returns-in-Ok
returns-in-Ok c = let x = c.args in action_found x.file.now x.sizes.now x.place x.nodes.now x.a x.k c.diagram_at-diagram.ensures.1 c.if-k-eq0.false (sym c.in-Ok.ensures)

pub returns-in-Err-eq0 : goal.returns-in-Err-eq0
returns-in-Err-eq0 c = let x = c.args in action_end x.file.now x.sizes.now x.place x.nodes.now x.a x.k c.diagram_at-diagram.ensures.1 c.if-k-eq0.false (sym c.in-Err-eq0.ensures) c.in-Err-eq0.field-0-test

pub returns-in-Err : goal.returns-in-Err
returns-in-Err c = let x = c.args in action_past x.file.now x.sizes.now x.place x.nodes.now x.a x.k c.diagram_at-diagram.ensures.1 c.if-k-eq0.false (sym c.in-Err.ensures) c.in-Err.left-test.1
