-- How many rounds the estimate of a task has: the least cost of an action is made of numbers by sums and the lesser of two, whether over all
-- valuations or by one pass.
use Rattle.std.specs.Prelude.{Bool, true, false, ℕ, suc, List, [], ◌∷◌, map}
use Rattle.estimate.specs.Number.{Number, exact, never, capped, sum, lesser, AtMost}
use Rattle.estimate.specs.FallLaws.{Falls, unchanged, Supported, falls_sum, falls_plus, falls_lesser, falls_number, all_supported}
use Rattle.estimate.specs.RoundBound.{FewRounds}
use Rattle.estimate.proofs.RoundBound.{rounds_few}
use Rattle.taskfile.specs.Task.{Node, Action, Task, cost}
use Rattle.relaxation.specs.Least.{least_of, states, values_sum}
use Rattle.relaxation.specs.Estimate.{tests, valuations, tested_number, least_cost, action_achiever}

-- ---- the least cost falls by a cause

module _ {new old : ℕ → ℕ → Number} (lower : (v d : ℕ) → AtMost (new v d) (old v d)) where
  -- the least over some things
  pub falls_least : {A : Type 0} (f g : A → Number) → ((x : A) → Falls new old (f x) (g x)) → (xs : List A) → Falls new old (least_of lesser never (map f xs)) (least_of lesser never (map g xs))
  falls_least f g h [] = unchanged
  falls_least f g h (x ∷ []) = h x
  falls_least f g h (x ∷ y ∷ xs) = falls_lesser (h x) (falls_least f g h (y ∷ xs))

  -- the number that a valuation adds for a value
  falls_tested : (nodes : List Node) (v d : ℕ) → Falls new old (tested_number new nodes v d) (tested_number old nodes v d)
  falls_tested nodes v d = go (tests nodes v)
    where
      go : (b : Bool) → Falls new old (elim b as (λ b. Number) [ true ↦ new v d | false ↦ exact 0 ]) (elim b as (λ b. Number) [ true ↦ old v d | false ↦ exact 0 ])
      go true = falls_number lower v d
      go false = unchanged

  -- what it adds for all values
  falls_values : (nodes : List Node) (v : ℕ) (s : List ℕ) → Falls new old (values_sum sum (exact 0) (tested_number new nodes) v s) (values_sum sum (exact 0) (tested_number old nodes) v s)
  falls_values nodes v [] = unchanged
  falls_values nodes v (d ∷ s) = falls_sum (falls_tested nodes v d) (falls_values nodes (suc v) s)

-- over all valuations
least_cost_supported : (sizes : List ℕ) (x : Action) → Supported (λ of. least_cost sizes of x)
unfolding least_cost
least_cost_supported sizes x =
    record { falls = λ lower. falls_least lower _ _ (λ s. falls_plus (capped (cost x s)) (falls_values lower x.nodes 0 s)) (states (valuations x.nodes 0 sizes)) }

-- ---- the bound

-- "Rounds go on until one changes nothing.": at most as many change something as the task has facts. The code makes turns, of which this says nothing.
pub estimate_rounds : (t : Task) (s : List ℕ) → FewRounds t.sizes (map (action_achiever least_cost t.sizes) t.actions) s
estimate_rounds t s = rounds_few t.sizes _ s (all_supported (action_achiever least_cost t.sizes) (least_cost_supported t.sizes) t.actions)
