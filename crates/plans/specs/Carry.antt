-- The probe list that comes from a source plan, and the source plan that a probe list comes from. Document 01, "Carrying plans across".
use Rattle.std.specs.Prelude.{ℕ, suc, ◌+◌, true, false, List, [], ◌∷◌, ◌++◌, eqb, get_or, take, Option, None, Some, slice_get}
use Rattle.facts.specs.Lists.{total}
use Rattle.facts.specs.Partial.{apply}
use Rattle.taskfile.specs.Task.{Node, Action, Task, edge_at}
use Rattle.compilation.specs.Compile.{edge_count, step_count}

-- the number of the start of action a: all steps of the actions before it come first
abbrev pub first_step_of : List Action → ℕ → ℕ
first_step_of actions a = total step_count (take a actions)

-- The step numbers of the edges passed from node `at` to the terminal, and of the end. `nodes` are those from number i on, and `first`
-- is the number of their first step.
abbrev pub path_steps : ℕ → ℕ → List Node → ℕ → List ℕ → List ℕ
path_steps first i [] at s = first ∷ []
path_steps first i (nd ∷ nodes) at s =
    elim (eqb at i) [
      | true ↦ (first + get_or s nd.var 0) ∷ path_steps (first + edge_count nd) (suc i) nodes (edge_at nd s).target s
      | false ↦ path_steps (first + edge_count nd) (suc i) nodes at s
    ]

-- all step numbers of an action whose start is `first`, in the state s before it
abbrev pub action_list : ℕ → Action → List ℕ → List ℕ
action_list first x s = first ∷ path_steps (suc first) 1 x.nodes 1 s

-- the probe list that comes from a list of actions, from the state s on
abbrev pub expand_from : List Action → List ℕ → List ℕ → List ℕ
expand_from actions [] s = []
expand_from actions (a ∷ list) s =
    elim (slice_get actions a) [
      | None ↦ []
      | Some x ↦ action_list (first_step_of actions a) x s ++ expand_from actions list (apply x.eff s)
    ]

-- the probe list that comes from a source plan
unfoldable pub expand : Task → List ℕ → List ℕ
expand t list = expand_from t.actions list t.init

-- The number of the action whose start is step r, if it is a start. `actions` are those from number a on, and `first` is the number of
-- their first step.
abbrev pub started_by : ℕ → ℕ → List Action → ℕ → Option ℕ
started_by first a [] r = None
started_by first a (x ∷ actions) r = elim (eqb r first) [ true ↦ Some a | false ↦ started_by (first + step_count x) (suc a) actions r ]

-- the actions started by a probe list, in turn
abbrev pub contract_of : List Action → List ℕ → List ℕ
contract_of actions [] = []
contract_of actions (r ∷ list) = elim (started_by 0 0 actions r) [ None ↦ contract_of actions list | Some a ↦ a ∷ contract_of actions list ]

-- the source plan that a probe plan comes from
unfoldable pub contract : Task → List ℕ → List ℕ
contract t list = contract_of t.actions list
