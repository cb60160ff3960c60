-- `diagram::node_end` meets its contract: a variable of the task, and then the edges. Assumes nothing.
use mathlib.Core.Path.{sym, ◌∙◌}
use Rattle.taskfile.specs.TargetLaws.{node_ends, node_no_variable, node_edges}
use Rattle.diagram.proofs.node_end.Goals as goal

pub returns-then-file-at : goal.returns-then-file-at
returns-then-file-at c = sym (node_ends _ _ _ _ _ c.if-file-at.true)

pub returns-then-sizes-variable : goal.returns-then-sizes-variable
returns-then-sizes-variable c = sym (node_no_variable _ _ _ _ _ c.if-file-at.false c.if-sizes-variable.true)

pub returns : goal.returns
returns c = c.edges_end.ensures ∙ sym (node_edges _ _ _ _ _ c.if-file-at.false c.if-sizes-variable.false)
