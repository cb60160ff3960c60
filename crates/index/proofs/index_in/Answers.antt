-- `index::index_in` meets its contract: a row that is too short is refused, else the pass notes the index in the row. Assumes nothing.
use mathlib.Core.Path.{sym, ◌∙◌}
use native.Mathlib.Omega.{arith}
use Rattle.taskfile.specs.TaskIndexLaws.{row_short, row_fits}
use Rattle.index.proofs.index_in.Goals as goal

pub returns-then-row-lt-ROW-clause-result_value : goal.returns-then-row-lt-ROW-clause-result_value
returns-then-row-lt-ROW-clause-result_value c = sym (row_short _ c.if-row-lt-ROW.true)

pub returns-clause-result_value : goal.returns-clause-result_value
returns-clause-result_value c = c.index_into.ensures.counted ∙ sym (row_fits _ (omega (arith, c.if-row-lt-ROW.false)))
