-- `describe::put_task` meets its contract: the parts in place, one after the other.
use Rattle.text.specs.WriterLaws.{appends_then, appends_as}
use Rattle.words.specs.Rows.{showing}
use Rattle.words.specs.DescribeLaws.{head_fits, heading_then}
use native.Mathlib.Omega.{arith}
use Rattle.describe.proofs.put_task.Goals as goal

pub put_heading-requires : goal.put_heading-requires
put_heading-requires c = head_fits _ c.requires

pub overflow_add-last : goal.overflow_add-last
overflow_add-last c = omega (arith, head_fits _ c.requires)

pub slice_bounds-put_actions-end : goal.slice_bounds-put_actions-end
slice_bounds-put_actions-end c = omega (arith, head_fits _ c.requires)

pub returns : goal.returns
unfolding showing
returns c = appends_as (heading_then _ _ _) (appends_then c.put_heading.ensures c.put_actions.ensures)
