-- Laws of the least cost by the old numbers in place, and of the actions of a task for the heuristic.
use Rattle.std.specs.Prelude.{◌≡◌, ℕ, zero, suc, ◌+◌, ◌<◌, List, map, get_or, drop}
use Rattle.std.proofs.Common.{sym, ap, ap₂, ◌∙◌, arith}
use Rattle.facts.specs.Lists.{up_from, All}
use Rattle.facts.specs.ListLaws.{all_at}
use Rattle.estimate.specs.Number.{Number, never, capped, sum, lesser, ranked}
use Rattle.estimate.specs.Additive.{Achiever, WfAchiever}
use Rattle.estimate.specs.FallLaws.{Supported, all_supported}
use Rattle.taskfile.specs.Task.{Edge}
use Rattle.taskfile.specs.Row.{own_from}
use Rattle.taskfile.specs.PartsInPlace.{node_in, actions_in}
use Rattle.relaxation.specs.Least.{least_of}
use Rattle.relaxation.specs.LeastLaws.{map_agree}
use Rattle.relaxation.specs.Pass.{by_edge, least_at}
use Rattle.relaxation.specs.PassInPlaceLaws.{edge_there}
use Rattle.relaxation.specs.Estimate.{action_achiever}
use Rattle.relaxation.specs.EstimatePass.{number_pass, least_cost_by_pass}
use Rattle.relaxation.proofs.EstimateRounds.{by_pass_supported}
use Rattle.relaxation.specs.EstimateInPlace.{number_for, achievers_in, Priceable, Estimable}
use Rattle.relaxation.specs.EstimateInPlaceLaws.{values_inside, achiever_wf}

-- ---- the least at the node at an offset, chosen value by value

module _ (f sizes : List ℕ) (of : ℕ → ℕ → Number) (table : List ℕ) (node : ℕ) where
  -- its variable, and how many values that has
  abbrev variable : ℕ
  variable = get_or f node 0

  abbrev size : ℕ
  size = get_or sizes variable 0

  least_there :
      least_of lesser never (map (number_for f node of variable table) (up_from 0 size))
      ≡ least_at (number_pass sizes of) (node_in f sizes node) (λ t. ranked (get_or table t 0))
  least_there =
      ap (least_of lesser never) (map_agree (number_for f node of variable table) (by_edge (number_pass sizes of) (node_in f sizes node) (λ t. ranked (get_or table t 0))) (up_from 0 size) (λ k d a.
      ap (λ (e : Edge). sum (capped e.weight) (sum (of variable d) (ranked (get_or table e.target 0))))
      (sym (edge_there f sizes node d (all_at (λ d. d < size) (values_inside sizes variable) a)))))

  -- of what was read
  pub number_in_place : {v n : ℕ} → v ≡ variable → n ≡ get_or sizes v 0
      → least_of lesser never (map (number_for f node of v table) (up_from 0 n)) ≡ least_at (number_pass sizes of) (node_in f sizes node) (λ t. ranked (get_or table t 0))
  number_in_place v-is n-is =
      ap₂ (λ (v n : ℕ). least_of lesser never (map (number_for f node of v table) (up_from 0 n))) v-is (n-is ∙ ap (λ (v : ℕ). get_or sizes v 0) v-is) ∙ least_there

-- ---- the offers of actions

module _ (f sizes row : List ℕ) (count : ℕ) where
  -- some of them from number a on, and all
  abbrev from : ℕ → ℕ → List Achiever
  from a some = achievers_in f sizes row a some

  abbrev all : List Achiever
  all = from 0 count

  -- their costs are made of numbers by sums and the lesser of two
  pub actions_supported : All (λ x. Supported x.cost) all
  actions_supported = all_supported (action_achiever least_cost_by_pass sizes) (by_pass_supported sizes) (actions_in f sizes row 0 count)

-- all are well-formed
achievers_from : (f sizes row : List ℕ) (a count : ℕ) → ((q : ℕ) → q < a + count → Priceable f sizes (get_or row q 0) (drop (own_from row q) row)) → All (WfAchiever sizes) (achievers_in f sizes row a count)
achievers_from f sizes row a zero h = tt
achievers_from f sizes row a (suc count) h = (achiever_wf (h a (omega arith)).wf, achievers_from f sizes row (suc a) count (λ q l. h q (omega arith)))

pub achievers_wf : {f sizes : List ℕ} {goal count : ℕ} {row : List ℕ} → Estimable f sizes goal count row → All (WfAchiever sizes) (achievers_in f sizes row 0 count)
achievers_wf {f} {sizes} {goal} {count} {row} e = achievers_from f sizes row 0 count (λ q l. e.action q (omega arith))
