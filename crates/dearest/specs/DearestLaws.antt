-- The state and the cost that are given are those that are asked for, and no others are; one pass and one walk find them.
use Rattle.std.specs.Prelude.{◌≡◌, ◌⊎◌, ℕ, ◌≤◌, ◌<◌, Option, None, Some}
use Rattle.std.proofs.Math.Path.{refl, sym, ap}
use Rattle.std.proofs.Common.{ap₂, ◌∙◌, inl, inr, eq-eqb, eqb-true}
use Rattle.std.proofs.Math.Decide.{dec_lt}
use native.Mathlib.Omega.{arith}
use mathlib.Core.List.{List, [], ◌∷◌}
use Rattle.std.proofs.Math.Dec.{eqb}
use Rattle.facts.specs.Lists.{All}
use Rattle.facts.specs.State.{Inside}
use Rattle.taskfile.specs.Task.{Action, max_values, walk, cost, WfAction}
use Rattle.dearest.specs.Dearest.{all_states, greatest_cost, dearest_state, Smaller, Dearest}
use Rattle.dearest.specs.ByWalk.{greatest_by_pass, dearest_by_walk}
use Rattle.dearest.specs.StatesLaws.{all_inside, inside_all, find_smallest}
use Rattle.dearest.specs.ByWalkLaws.{greatest_most, greatest_least, First, walk_first}

-- domains have values
pub some_values : (sizes : List ℕ) → All (λ d. (2 ≤ d) × (d ≤ max_values)) sizes → All (λ d. 0 < d) sizes
some_values [] h = tt
some_values (d ∷ sizes) h = (omega (arith, h.0.0), some_values sizes h.1)

module _ {sizes : List ℕ} {x : Action} (wf : WfAction sizes x) (some_value : All (λ d. 0 < d) sizes) where
  -- what the walk from node 1 gives
  pub walked : First wf some_value 1 sizes [] (dearest_by_walk sizes x)
  unfolding dearest_by_walk
  walked = walk_first wf some_value 1 0 sizes [] refl refl (record { positive = omega arith; within = omega arith }) (omega arith)

  -- it has the greatest cost
  pub walk_costs : cost x (dearest_by_walk sizes x) ≡ greatest_by_pass sizes x
  unfolding walk greatest_by_pass
  walk_costs = omega (arith, walked.costs_it)

  pub none_costs_more : (s : List ℕ) → Inside sizes s → cost x s ≤ greatest_by_pass sizes x
  unfolding walk greatest_by_pass
  none_costs_more s i = omega (arith, walked.most s i)

  -- and is the first that has it
  pub walk_smallest : (s : List ℕ) → Inside sizes s → cost x s ≡ greatest_by_pass sizes x → (dearest_by_walk sizes x ≡ s) ⊎ Smaller (dearest_by_walk sizes x) s
  unfolding walk greatest_by_pass
  walk_smallest s i c = walked.first s i (omega arith)

  -- ---- the greatest cost over all states: one pass finds it

  pub greatest_by_pass_lem : greatest_cost sizes x ≡ greatest_by_pass sizes x
  unfolding greatest_cost
  greatest_by_pass_lem =
      let one = inside_all sizes (dearest_by_walk sizes x) walked.inside in
      let least = greatest_most (cost x) one.1 in
      let most = greatest_least (cost x) (all_states sizes) (greatest_by_pass sizes x) (λ k s a. none_costs_more s (all_inside sizes a)) in
      omega (arith, walk_costs)

  -- ---- the first state that has it: one walk finds it

  pub dearest_by_walk_lem : dearest_state sizes x ≡ dearest_by_walk sizes x
  unfolding dearest_state
  dearest_by_walk_lem =
      let g = greatest_by_pass_lem in
      let found = find_smallest (λ s. eqb (cost x s) (greatest_cost sizes x)) (eq-eqb _ _ (walk_costs ∙ sym g)) sizes walked.inside (λ s i t. walk_smallest s i (eqb-true _ _ t ∙ g)) in
      ap (λ (o : Option (List ℕ)). elim o as (λ o. List ℕ) [ None ↦ [] | Some s ↦ s ]) found

-- ---- nothing else is so

-- of two states one is smaller
smaller_either : (sizes s z : List ℕ) → Inside sizes s → Inside sizes z → (s ≡ z) ⊎ (Smaller s z ⊎ Smaller z s)
smaller_either [] [] [] i k = inl refl
smaller_either [] [] (y ∷ z) i k = absurd k
smaller_either [] (x ∷ s) z i k = absurd i
smaller_either (d ∷ sizes) [] z i k = absurd i
smaller_either (d ∷ sizes) (x ∷ s) [] i k = absurd k
smaller_either (d ∷ sizes) (x ∷ s) (y ∷ z) i k =
    elim (dec_lt x y) [
      | yes l ↦ inr (inl (inl l))
      | no l ↦
          elim (dec_lt y x) [
            | yes g ↦ inr (inr (inl g))
            | no g ↦
                let e : x ≡ y = omega arith in
                elim (smaller_either sizes s z i.1 k.1) [
                  | inl same ↦ inl (ap₂ (λ (a : ℕ) (b : List ℕ). a ∷ b) e same)
                  | inr (inl l) ↦ inr (inl (inr (e, l)))
                  | inr (inr l) ↦ inr (inr (inr (sym e, l)))
                ]
          ]
    ]

-- One state and one cost alone are as `Dearest` says.
pub dearest_only : {sizes : List ℕ} {x : Action} {s z : List ℕ} {m n : ℕ} → Dearest sizes x s m → Dearest sizes x z n → (s ≡ z) × (m ≡ n)
dearest_only {sizes} {x} {s} {z} {m} {n} a b =
    let same : m ≡ n = omega (arith, a.none_more z b.inside, b.none_more s a.inside, a.costs, b.costs) in (
      elim (smaller_either sizes s z a.inside b.inside) [
        | inl e ↦ e
        | inr (inl l) ↦ absurd (omega (arith, b.smallest s a.inside l, a.costs))
        | inr (inr l) ↦ absurd (omega (arith, a.smallest z b.inside l, b.costs))
      ],
      same,
    )
