-- `task_dearest::edge::cost_by` meets its contract: the edge lies inside the file, its target is a number of the table, and no entry is greater than the greatest.
use Prim.Native.Nat.{◌+◌, ◌*◌, ◌≤◌}
use mathlib.Core.Path.{ap₂, refl}
use native.Mathlib.Omega.{arith}
use lib.ListN.{get_or}
use Rattle.relaxation.specs.RelaxedInPlace.{greatest}
use Rattle.relaxation.specs.RelaxedInPlaceLaws.{greatest_at}
use Rattle.task_dearest.proofs.edge.cost_by.Goals as goal
use Rattle.task_dearest.proofs.edge.cost_by.Goals.{Start}

-- no entry is greater than the greatest
entry : (c : goal.Start) → get_or c.args.table.now (get_or c.args.file.now (c.args.node + (1 + 3 * c.args.value)) 0) 0 ≤ greatest c.args.table.now
entry c = greatest_at c.args.table.now (get_or c.args.file.now (c.args.node + (1 + 3 * c.args.value)) 0)

pub overflow_add-result : goal.overflow_add-result
overflow_add-result c = omega (arith, c.weight_inside.ensures.1, entry (goal.at.overflow_add-result c).Start, c.requires.1.low)

pub returns : goal.returns
returns c = (ap₂ ◌+◌ c.weight_inside.ensures.0 refl, omega (arith, c.weight_inside.ensures.1, entry (goal.at.returns c).Start))
