-- How many rounds the estimate of a task has: the least cost of an action is made of numbers by sums and the lesser of two, whether over all
-- valuations or by one pass.
use Rattle.std.specs.Prelude.{ℕ, zero, suc, ◌-◌, List, [], ◌∷◌, map, get_or}
use Rattle.estimate.specs.Number.{Number, exact, capped, AtMost}
use Rattle.estimate.specs.FallLaws.{Falls, unchanged, Supported, falls_sum, falls_plus, falls_number, all_supported}
use Rattle.estimate.specs.RoundBound.{FewRounds}
use Rattle.estimate.proofs.RoundBound.{rounds_few}
use Rattle.taskfile.specs.Task.{Node, Action, Task}
use Rattle.relaxation.specs.Pass.{edge_for, by_edge, least_froms}
use Rattle.relaxation.specs.Estimate.{action_achiever}
use Rattle.relaxation.specs.EstimatePass.{number_pass, least_cost_by_pass}
use Rattle.relaxation.specs.EstimateRounds.{falls_least}

-- ---- the least cost falls by a cause

module _ {new old : ℕ → ℕ → Number} (lower : (v d : ℕ) → AtMost (new v d) (old v d)) where
  -- what a pass finds from each node on, the first having the number i
  falls_froms : (sizes : List ℕ) (i : ℕ) (nodes : List Node) (k : ℕ)
      → Falls new old (get_or (least_froms (number_pass sizes new) i nodes) k (exact 0)) (get_or (least_froms (number_pass sizes old) i nodes) k (exact 0))
  falls_froms sizes i [] k = unchanged
  falls_froms sizes i (nd ∷ nodes) zero =
      falls_least lower
      (by_edge (number_pass sizes new) nd (λ k. get_or (least_froms (number_pass sizes new) (suc i) nodes) (k - suc i) (exact 0)))
      (by_edge (number_pass sizes old) nd (λ k. get_or (least_froms (number_pass sizes old) (suc i) nodes) (k - suc i) (exact 0)))
      (λ d. falls_plus (capped (edge_for nd d).weight) (falls_sum (falls_number lower nd.var d) (falls_froms sizes (suc i) nodes ((edge_for nd d).target - suc i))))
      ((number_pass sizes new).values nd.var)
  falls_froms sizes i (nd ∷ nodes) (suc k) = falls_froms sizes (suc i) nodes k

-- by one pass
pub by_pass_supported : (sizes : List ℕ) (x : Action) → Supported (λ of. least_cost_by_pass sizes of x)
unfolding least_cost_by_pass
by_pass_supported sizes x = record { falls = λ lower. falls_plus (capped x.incoming) (falls_froms lower sizes 1 x.nodes 0) }

-- ---- the bound

-- the same for the rounds of the estimate by passes
pub by_pass_rounds : (t : Task) (s : List ℕ) → FewRounds t.sizes (map (action_achiever least_cost_by_pass t.sizes) t.actions) s
by_pass_rounds t s = rounds_few t.sizes _ s (all_supported (action_achiever least_cost_by_pass t.sizes) (by_pass_supported t.sizes) t.actions)
