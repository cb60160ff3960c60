-- Following a probe list in place: what code knows of a task's steps before it follows a list, and what it promises.
use Rattle.std.specs.Prelude.{◌≡◌, ℕ, ◌*◌, ◌≤◌, ◌<◌, List, ◌++◌, length, get_or, take, drop, Option, None, Some}
use Rattle.facts.specs.Lists.{total}
use Rattle.facts.specs.Read.{accepted}
use Rattle.facts.specs.Partial.{apply, partial_at}
use Rattle.facts.specs.Run.{next as went, run_from}
use Rattle.taskfile.specs.Task.{Node, max_weight, WfAction}
use Rattle.taskfile.specs.Row.{own_from}
use Rattle.taskfile.specs.WalkInPlace.{way_from, max_walk, perform_at, move_at}
use Rattle.taskfile.specs.PartsInPlace.{nodes_in, action_in, actions_in}
use Rattle.compilation.specs.Compile.{step_count}
use Rattle.plans.specs.Carry.{expand_from}
use Rattle.carry.specs.CarryFile.{contracted}
use Rattle.numbering.specs.InPlace.{AllTested, entries_of, Writable, Numbered, Noted}
use Rattle.probefile.specs.Probe.{max_steps}

-- ---- one action

-- the steps of an action with these nodes are numbered, its start is `first` and its end comes before `next`; the state s is inside the domains
abbrev pub Walkable : List ℕ → List Node → List ℕ → ℕ → ℕ → List ℕ → Type 0
Walkable sizes nodes first_edge first next s = Writable sizes nodes first_edge first next s (length (entries_of first nodes s))

-- from its entry `from` on, a start, the list has the entries of an action with these nodes in the state s, and from index i on others
pub record Passed (nodes : List Node) (s list : List ℕ) (from i : ℕ) : Type 0 where
  pub entries : drop from list ≡ entries_of (get_or list from 0) nodes s ++ drop i list
  pub later : from < i
  pub within : i ≤ length list

-- the path is passed, and its edges have this cost
pub record PathPassed (f sizes offsets : List ℕ) (count : ℕ) (s list : List ℕ) (from i cost : ℕ) : Type 0 where
  pub passed : Passed (nodes_in f sizes offsets 0 count) s list from i
  pub cost_is : cost ≡ (way_from f offsets count s 1).cost
  pub small : cost ≤ max_weight * count

-- what the answer to a path says
abbrev pub PathTo : List ℕ → List ℕ → List ℕ → ℕ → List ℕ → List ℕ → ℕ → Option (ℕ × ℕ) → Type 0
PathTo f sizes offsets count s list from (Some (i, cost)) = PathPassed f sizes offsets count s list from i cost
PathTo f sizes offsets count s list from None = Unit {0}

-- the path is passed, and the action leads to the state `after` at this cost
pub record ActionPassed (f sizes : List ℕ) (at : ℕ) (offsets s list : List ℕ) (from : ℕ) (after : List ℕ) (i cost : ℕ) : Type 0 where
  pub passed : Passed (action_in f sizes at offsets).nodes s list from i
  pub moves : went after cost ≡ perform_at f at offsets s
  pub state : after ≡ apply (action_in f sizes at offsets).eff s
  pub small : cost ≤ max_walk

-- what the answer to an action says
abbrev pub ActionTo : List ℕ → List ℕ → ℕ → List ℕ → List ℕ → List ℕ → ℕ → List ℕ → Option (ℕ × ℕ) → Type 0
ActionTo f sizes at offsets s list from after (Some (i, cost)) = ActionPassed f sizes at offsets s list from after i cost
ActionTo f sizes at offsets s list from after None = Unit {0}

-- ---- a whole list

-- what a list is followed by: the row has each action, each is well-formed, the variables that its nodes test are noted, its steps have their numbers, at most 576, and each start has its action
pub record Followable (f sizes : List ℕ) (count : ℕ) (row first_step first_edge action_of_lem : List ℕ) : Type 0 where
  pub long : count ≤ length row
  pub well_formed : (a : ℕ) → a < count → WfAction sizes (action_in f sizes (get_or row a 0) (drop (own_from row a) row))
  pub tested : AllTested f count row
  pub numbered : Numbered (actions_in f sizes row 0 count) row first_step first_edge
  pub few : total step_count (actions_in f sizes row 0 count) ≤ max_steps
  pub noted : Noted (actions_in f sizes row 0 count) action_of_lem

-- the first n entries of `out` are actions that lead from the state s to the goal with this sum, and the list comes from them
pub record PlanFollowed (f sizes : List ℕ) (goal count : ℕ) (row list s out : List ℕ) (n sum : ℕ) : Type 0 where
  pub within : n ≤ length out
  pub comes : list ≡ expand_from (actions_in f sizes row 0 count) (take n out) s
  pub runs : run_from count (move_at f row) (partial_at f goal) 0 0 (take n out) s ≡ accepted sum

-- what the answer to a list says
abbrev pub PlanTo : List ℕ → List ℕ → ℕ → ℕ → List ℕ → List ℕ → List ℕ → List ℕ → Option (ℕ × ℕ) → Type 0
PlanTo f sizes goal count row list s out (Some (n, sum)) = PlanFollowed f sizes goal count row list s out n sum
PlanTo f sizes goal count row list s out None = Unit {0}

-- on an accepted file: a list that is followed to its end is contracted to the first n entries of `out`
abbrev pub ContractsTo : List ℕ → List ℕ → List ℕ → Option (ℕ × ℕ) → Type 0
ContractsTo f list out (Some (n, sum)) = (n ≤ length out) × (contracted f list ≡ accepted (take n out, sum))
ContractsTo f list out None = Unit {0}
