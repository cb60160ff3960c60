-- The relaxed cost by one pass over the nodes of a diagram, from the last to the first.
use Rattle.std.specs.Prelude.{ℕ, ◌+◌, min, List, get_or}
use Rattle.taskfile.specs.Task.{Action}
use Rattle.relaxation.specs.Least.{least_of}
use Rattle.relaxation.specs.Relaxed.{values_in}
use Rattle.relaxation.specs.Pass.{Pass, least_from}

-- over the values in each variable's set, the weights added up
abbrev pub relaxed_pass : List ℕ → Pass ℕ
relaxed_pass sets = record { values = λ v. values_in (get_or sets v 0); across = λ v d w later. w + later; least = least_of min 0; terminal = 0 }

-- the relaxed cost of an action, so found
unfoldable pub relaxed_by_pass : Action → List ℕ → ℕ
relaxed_by_pass x sets = x.incoming + least_from (relaxed_pass sets) x.nodes 1
