-- Laws of a state's walk through a diagram: at a node it goes on from the target of that node's edge, the terminal is its end, and what it
-- passes and costs at most.
use Rattle.std.specs.Prelude.{ℕ, ◌≤◌}
use native.Mathlib.Omega.{arith}
use mathlib.Core.List.{List}
use Rattle.std.proofs.Math.ListN.{length}
use Rattle.facts.specs.State.{Inside}
use Rattle.taskfile.specs.Task.{Action, max_variables, max_cost, cost, WfAction, Weights}
use Rattle.taskfile.specs.WalkLaws.{passed_most, cost_passed}

-- ---- a well-formed action x in a state s inside the domains

module _ {sizes : List ℕ} {x : Action} (wf : WfAction sizes x) (s : List ℕ) (inside : Inside sizes s) where
  pub cost_most : Weights x → length sizes ≤ max_variables → cost x s ≤ max_cost
  cost_most w few = omega (arith, cost_passed wf s inside w, passed_most wf s inside)
