-- Estimates of tasks as values, computed: what document 01's known cases, in FileExamples, do not show.
use Rattle.std.specs.Prelude.{◌≡◌, refl, ℕ, List, [], ◌∷◌}
use Rattle.facts.specs.Partial.{Partial, empty}
use Rattle.estimate.specs.Number.{exact}
use Rattle.estimate.specs.Rounds.{settled}
use Rattle.estimate.specs.Additive.{additive_round, last_numbers, additive}
use Rattle.taskfile.specs.Task.{Edge, Action, Task, walk_from, walk}
use Rattle.taskfile.specs.Examples.{P}
use Rattle.relaxation.specs.Estimate.{least_cost, estimate}

-- ---- A and B, variables 0 and 1, at 0

-- what an estimate opens
estimating : Unit {0}
unfolding walk walk_from least_cost settled additive_round last_numbers additive
estimating = tt

-- an edge to the terminal of a diagram with one node
abbrev last_edge : ℕ → Edge
last_edge w = record { target = 2; weight = w }

abbrev A=1 : Partial
A=1 = record { map = 1; values = 1 ∷ [] }

abbrev B=1 : Partial
B=1 = record { map = 2; values = 1 ∷ [] }

-- sets A=1 at 2-2B
abbrev set_A : Action
set_A = record { pre = empty; eff = A=1; incoming = 0; nodes = record { var = 1; edges = last_edge 2 ∷ last_edge 0 ∷ [] } ∷ [] }

-- sets B=1 at 1
abbrev set_B : Action
set_B = record { pre = empty; eff = B=1; incoming = 1; nodes = [] }

-- the task with this goal and these actions
abbrev A_and_B : Partial → List Action → Task
A_and_B goal actions = record { sizes = 2 ∷ 2 ∷ []; init = 0 ∷ 0 ∷ []; goal = goal; actions = actions }

-- task P
estimate_P : estimate P (0 ∷ []) ≡ exact 8
unfolding estimating
estimate_P = refl

-- ---- a fact shared by two preconditions is counted twice

-- A=1 and B=1 each need C=1, variable 2, which costs 5
abbrev C=1 : Partial
C=1 = record { map = 4; values = 1 ∷ [] }

-- sets some facts at a fixed cost
abbrev fixed : Partial → Partial → ℕ → Action
fixed pre eff c = record { pre = pre; eff = eff; incoming = c; nodes = [] }

-- 5 for A=1 and 5 for B=1
shared_twice : estimate (record {
  sizes = 2 ∷ 2 ∷ 2 ∷ [];
  init = 0 ∷ 0 ∷ 0 ∷ [];
  goal = record { map = 3; values = 1 ∷ 1 ∷ [] };
  actions = fixed C=1 A=1 0 ∷ fixed C=1 B=1 0 ∷ fixed empty C=1 5 ∷ [];
}) (0 ∷ 0 ∷ 0 ∷ []) ≡ exact 10
unfolding estimating
shared_twice = refl

-- an action that needs B=1 and whose cost tests B adds the number of B=1 twice
pre_and_diagram : estimate (A_and_B A=1 (record { pre = B=1; eff = A=1; incoming = 0; nodes = record { var = 1; edges = last_edge 9 ∷ last_edge 0 ∷ [] } ∷ [] } ∷ set_B ∷ [])) (0 ∷ 0 ∷ []) ≡ exact 2
unfolding estimating
pre_and_diagram = refl

-- an empty goal
no_goal : estimate (A_and_B empty (set_A ∷ [])) (0 ∷ 0 ∷ []) ≡ exact 0
unfolding estimating
no_goal = refl
