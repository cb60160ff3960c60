-- The estimate of a task with each action's least cost found by one pass over the nodes of its diagram, from the last to the first.
use Rattle.std.specs.Prelude.{ℕ, List, get_or}
use Rattle.facts.specs.Lists.{up_from}
use Rattle.estimate.specs.Number.{Number, exact, never, capped, sum, lesser}
use Rattle.taskfile.specs.Task.{Action, Task}
use Rattle.relaxation.specs.Least.{least_of}
use Rattle.relaxation.specs.Pass.{Pass, least_from}
use Rattle.relaxation.specs.Estimate.{estimate_by}

-- over all values of each variable, with the number of the value added to the weight of its edge
abbrev pub number_pass : List ℕ → (ℕ → ℕ → Number) → Pass Number
number_pass sizes of = record {
  values = λ v. up_from 0 (get_or sizes v 0);
  across = λ v d w later. sum (capped w) (sum (of v d) later);
  least = least_of lesser never;
  terminal = exact 0;
}

-- the least cost of an action by the old numbers, so found
unfoldable pub least_cost_by_pass : List ℕ → (ℕ → ℕ → Number) → Action → Number
least_cost_by_pass sizes of x = sum (capped x.incoming) (least_from (number_pass sizes of) x.nodes 1)

-- the estimate from the state s, so found
abbrev pub estimate_by_pass : Task → List ℕ → Number
estimate_by_pass t s = estimate_by least_cost_by_pass t s
