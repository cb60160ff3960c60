-- The state and the cost that are given are those that are asked for, and no others are; one pass and one walk find them.
use Rattle.std.specs.Prelude.{ℕ, ◌<◌}
use Rattle.std.proofs.Common.{inl, inr, eq-or-lt_of_le}
use mathlib.Core.List.{List}
use Rattle.facts.specs.Lists.{All}
use Rattle.facts.specs.State.{Inside}
use Rattle.taskfile.specs.Task.{Action, cost, WfAction}
use Rattle.dearest.specs.Dearest.{greatest_cost, dearest_state, Smaller, Dearest}
use Rattle.dearest.specs.ByWalk.{greatest_by_pass, dearest_by_walk}
use Rattle.dearest.specs.StatesLaws.{smaller_once}
use Rattle.dearest.specs.DearestLaws.{walked, walk_costs, none_costs_more, walk_smallest, greatest_by_pass_lem, dearest_by_walk_lem}

module _ {sizes : List ℕ} {x : Action} (wf : WfAction sizes x) (some_value : All (λ d. 0 < d) sizes) where
  -- ---- "No state of the task may cost more", the state given costs that, and every smaller one costs less

  pub dearest_is : Dearest sizes x (dearest_state sizes x) (greatest_cost sizes x)
  dearest_is = rw (dearest_by_walk_lem wf some_value, greatest_by_pass_lem wf some_value) (record { inside = (walked wf some_value).inside; costs = walk_costs wf some_value; none_more = none_costs_more wf some_value; smallest = smallest })
    where
      smallest : (s : List ℕ) → Inside sizes s → Smaller s (dearest_by_walk sizes x) → cost x s < greatest_by_pass sizes x
      smallest s i l =
          elim (eq-or-lt_of_le (none_costs_more wf some_value s i)) [
            | inr less ↦ less
            | inl same ↦ absurd (elim (walk_smallest wf some_value s i same) [ inl e ↦ smaller_once s s (rw e at l) (rw e at l) | inr k ↦ smaller_once s (dearest_by_walk sizes x) l k ])
          ]
