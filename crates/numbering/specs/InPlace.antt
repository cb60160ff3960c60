-- What code knows of a task's steps and of a list before it carries the list across, and the list of actions by what was noted.
use Rattle.std.specs.Prelude.{◌≡◌, ℕ, zero, suc, ◌+◌, ◌<◌, ◌≤◌, List, [], ◌∷◌, ltb, length, get_or, set, take, drop, None, Some, Result, Ok, Err}
use Rattle.facts.specs.declared.Refusal.{Refusal}
use Rattle.facts.specs.Refusal.{number, place}
use Rattle.facts.specs.Read.{Read, accepted, check, ◌>>=◌, refused}
use Rattle.facts.specs.State.{Inside}
use Rattle.facts.specs.Write.{Wrote}
use Rattle.facts.specs.Run.{at_most}
use Rattle.taskfile.specs.Task.{Node, Action, Task, max_list, max_variables, WfNode, WfAction}
use Rattle.taskfile.specs.TaskFile.{read_task}
use Rattle.probefile.specs.Probe.{probe_sum, max_list as maxProbeList, max_steps}
use Rattle.compilation.specs.Compile.{probe_of, edge_count, step_count}
use Rattle.step_writer.specs.InPlace.{Weighs}
use Rattle.plans.specs.Carry.{first_step_of, path_steps, started_by}
use Rattle.facts.specs.Lists.{total, At}
use Rattle.taskfile.specs.Row.{incoming_from, firsts_from, own_from}
use Rattle.taskfile.specs.InPlace.{nodes_before}
use Rattle.taskfile.specs.WalkInPlace.{node_count}
use Rattle.taskfile.specs.PartsInPlace.{actions_in, Tested}
use Rattle.carry.specs.CarryFile.{expanded}

-- the variables that the nodes of each action test are noted behind their offsets
pub record AllTested (f : List ℕ) (count : ℕ) (row : List ℕ) : Type 0 where
  pub own : (a : ℕ) → a < count → Tested f (drop (own_from row a) row) (node_count f (get_or row a 0))

-- There are at most 576 steps, the row has each action and how many nodes the actions before it have, and there is room for so many nodes.
pub record Rows (actions : List Action) (row : List ℕ) (room : ℕ) : Type 0 where
  pub few : total step_count actions ≤ max_steps
  pub first_is : {a : ℕ} {x : Action} → At actions a x → get_or row (firsts_from + a) 0 ≡ nodes_before actions a
  pub fits : total (λ x. length x.nodes) actions ≤ room
  pub long : length actions ≤ length row

-- `first_edge` has the number of the first edge of each of these nodes, where `from` is the first node's
pub record Edges (nodes : List Node) (from : ℕ) (first_edge : List ℕ) : Type 0 where
  pub number : (j : ℕ) → j < length nodes → get_or first_edge j 0 ≡ from + total edge_count (take j nodes)

-- `first_step` has the number of each action's start, and past the last the number of all steps; `first_edge` has, from each action's first node on, the number of the first
-- edge of each of its nodes
pub record Numbered (actions : List Action) (row first_step first_edge : List ℕ) : Type 0 where
  pub numbers : (a : ℕ) → a ≤ length actions → get_or first_step a 0 ≡ first_step_of actions a
  pub edges : {a : ℕ} {x : Action} → At actions a x → Edges x.nodes (1 + first_step_of actions a) (drop (get_or row (firsts_from + a) 0) first_edge)

-- `action_of_lem` has at the number of each start 1 and the number of its action, and at every other number 0
pub record Noted (actions : List Action) (action_of_lem : List ℕ) : Type 0 where
  pub notes : (r : ℕ) → get_or action_of_lem r 0 ≡ elim (started_by 0 0 actions r) [ None ↦ 0 | Some a ↦ suc a ]

-- the same, of the actions of the task of f
pub record NotedIn (f action_of_lem : List ℕ) : Type 0 where
  pub noted : (t : Task) → read_task f ≡ accepted t → Noted t.actions action_of_lem

-- `action_of_lem` with 1 and the number of each action set at the number of its start: those from number a on, whose starts these are
abbrev pub note_from : ℕ → List ℕ → List ℕ → List ℕ
note_from a [] action_of_lem = action_of_lem
note_from a (r ∷ first_step) action_of_lem = note_from (suc a) first_step (set action_of_lem r (suc a))

-- by what was noted
module _ (action_of_lem : List ℕ) where
  -- the actions started by a probe list, in turn
  abbrev pub contract_in : List ℕ → List ℕ
  contract_in [] = []
  contract_in (r ∷ list) = elim (get_or action_of_lem r 0) [ zero ↦ contract_in list | suc a ↦ a ∷ contract_in list ]

  -- how many they are, with `count` started before them; 8 at the index of the first start past 256, where the list's first entry has the index i
  abbrev pub count_in : ℕ → ℕ → List ℕ → Read ℕ
  count_in count i [] = accepted count
  count_in count i (r ∷ list) =
      elim (get_or action_of_lem r 0) [
        | zero ↦ count_in count (suc i) list
        | suc a ↦ ◌>>=◌ (check (ltb count max_list) 8 i) (λ u. count_in (suc count) (suc i) list)
      ]

-- f has a task, and the list is a plan of its probe within the limit, with this sum
pub record ProbePlanOf (f list : List ℕ) (sum : ℕ) : Type 0 where
  pub t : Task
  pub task : read_task f ≡ accepted t
  pub few : at_most maxProbeList list ≡ accepted tt
  pub sums : probe_sum (probe_of t) list ≡ accepted sum

-- ---- one action

-- the step numbers of an action with these nodes, whose start is `first`, in the state s before it
abbrev pub entries_of : ℕ → List Node → List ℕ → List ℕ
entries_of first nodes s = first ∷ path_steps (suc first) 1 nodes 1 s

-- The step numbers of an action with these nodes, whose start is `first` and whose end comes before `next`, can be written in the state s: the nodes are well-formed, `first_edge` has
-- the number of each node's first edge, and there is room.
pub record Writable (sizes : List ℕ) (nodes : List Node) (first_edge : List ℕ) (first next : ℕ) (s : List ℕ) (room : ℕ) : Type 0 where
  pub well_formed : {j : ℕ} {nd : Node} → At nodes j nd → WfNode sizes nodes (suc j) nd
  pub inside : Inside sizes s
  pub edges : Edges nodes (1 + first) first_edge
  pub next_is : next ≡ first + (2 + total edge_count nodes)
  pub few : next ≤ max_steps
  pub fits : length (entries_of first nodes s) ≤ room

-- ---- lists of actions

-- the probe list that comes from a list of actions, and no entries where it is refused
unfoldable pub expansion : List ℕ → List ℕ → List ℕ
expansion f list = elim (expanded f list) [ accepted c ↦ c.0 | refused n p ↦ [] ]

-- what a run answers: its sum, where these entries were written at the front of a buffer, which was `before` and is `now`; or its refusal
abbrev pub WroteIf : Result (ℕ × ℕ) Refusal → Read ℕ → List ℕ → List ℕ → List ℕ → Type 0
WroteIf (Ok (n, sum)) ran entries before now = (accepted sum ≡ ran) × Wrote entries before now n
WroteIf (Err why) ran entries before now = refused (number why) (place why) ≡ ran

-- what the probe list of a list of actions is written from: the row has each action, each is well-formed, its incoming weight and the variables that its nodes test are noted, the steps have their numbers, and there are at most 24 variables and 576 steps
pub record Prepared (f sizes : List ℕ) (count : ℕ) (row first_step first_edge : List ℕ) : Type 0 where
  pub long : incoming_from + count ≤ length row
  pub weighs : (a : ℕ) → a < count → Weighs f (get_or row a 0) (get_or row (incoming_from + a) 0)
  pub tested : AllTested f count row
  pub variables : length sizes ≤ max_variables
  pub well_formed : {a : ℕ} {x : Action} → At (actions_in f sizes row 0 count) a x → WfAction sizes x
  pub numbered : Numbered (actions_in f sizes row 0 count) row first_step first_edge
  pub few : total step_count (actions_in f sizes row 0 count) ≤ max_steps
