-- What the answer of a step means.
use Rattle.std.specs.Prelude.{ℕ, ◌≤◌, List}
use Rattle.facts.specs.Run.{Move, next, blocked}
use Rattle.probe.specs.declared.step.Applied.{Applied}
use Rattle.probe.specs.declared.step.Applied.TheVariants.{Next, Blocked}

-- what a step did, with the state that stands beside its answer
abbrev pub applied_move : Applied → List ℕ → Move
applied_move (Next cost) s = next s cost
applied_move Blocked s = blocked

-- the cost of what applied is at most `most`
abbrev pub CostMost : ℕ → Applied → Type 0
CostMost most (Next cost) = cost ≤ most
CostMost most Blocked = Unit {0}
