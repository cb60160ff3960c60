-- The estimate of a task from a state. Document 01, "Relaxed cost and estimate".
use Rattle.std.specs.Prelude.{ℕ, suc, Bool, true, false, ◌||◌, List, [], ◌∷◌, map, eqb}
use Rattle.facts.specs.Lists.{up_from}
use Rattle.estimate.specs.Number.{Number, exact, never, capped, sum, lesser}
use Rattle.estimate.specs.Additive.{Achiever, additive}
use Rattle.taskfile.specs.Task.{Node, Action, Task, cost}
use Rattle.relaxation.specs.Least.{least_over, values_sum}

-- ---- the least cost of an action by the old numbers

-- whether a diagram tests the variable v
abbrev pub tests : List Node → ℕ → Bool
tests [] v = false
tests (nd ∷ nodes) v = eqb nd.var v || tests nodes v

-- the values that a valuation may give the variable v; one that is not tested stays at 0
abbrev pub tested_values : List Node → ℕ → ℕ → List ℕ
tested_values nodes v size = elim (tests nodes v) [ true ↦ up_from 0 size | false ↦ 0 ∷ [] ]

-- the same for all variables, the first one's number being v
abbrev pub valuations : List Node → ℕ → List ℕ → List (List ℕ)
valuations nodes v [] = []
valuations nodes v (size ∷ sizes) = tested_values nodes v size ∷ valuations nodes (suc v) sizes

-- the number of a value of variable v, 0 where v is not tested
abbrev pub tested_number : (ℕ → ℕ → Number) → List Node → ℕ → ℕ → Number
tested_number of nodes v d = elim (tests nodes v) [ true ↦ of v d | false ↦ exact 0 ]

-- "the least, over all valuations of the variables that its diagram tests, of cost plus the old numbers of those values"
unfoldable pub least_cost : List ℕ → (ℕ → ℕ → Number) → Action → Number
least_cost sizes of x =
    least_over lesser never (valuations x.nodes 0 sizes) (λ (s : List ℕ). sum (capped (cost x s)) (values_sum sum (exact 0) (tested_number of x.nodes) 0 s))

-- ---- the estimate

-- an action for the heuristic, where `least` is what it costs at least by the old numbers
abbrev pub action_achiever : (List ℕ → (ℕ → ℕ → Number) → Action → Number) → List ℕ → Action → Achiever
action_achiever least sizes x = record { pre = x.pre; eff = x.eff; cost = λ of. least sizes of x }

-- the estimate from the state s
abbrev pub estimate_by : (List ℕ → (ℕ → ℕ → Number) → Action → Number) → Task → List ℕ → Number
estimate_by least t s = additive t.sizes (map (action_achiever least t.sizes) t.actions) t.goal s

-- with the least over all valuations
abbrev pub estimate : Task → List ℕ → Number
estimate t s = estimate_by least_cost t s
