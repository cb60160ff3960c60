-- What the steps of an action cost together is what the action costs. Document 01, "The probe file", "Running on a task".
use Rattle.std.specs.Prelude.{ℕ, suc, ◌+◌, ◌≡◌, refl, Bool, true, false, List, [], ◌∷◌, eqb, get_or}
use Rattle.std.proofs.Common.{ap}
use Rattle.taskfile.specs.Task.{Edge, Node, Action, edge_at, Walk, along, walk_from, walk, cost}
use Rattle.probefile.specs.Probe.{Step}
use Rattle.compilation.specs.Compile.{edge_step}
use Rattle.compilation.specs.ActionCostLaws.{passed_from, steps_passed, costs}

costs_add_up_from : (n a : ℕ) (x : Action) (i : ℕ) (nodes : List Node) (at : ℕ) (s : List ℕ) → costs (passed_from n a x i nodes at s) ≡ (walk_from i nodes at s).cost
unfolding walk_from
costs_add_up_from n a x i [] at s = refl
costs_add_up_from n a x i (nd ∷ nodes) at s =
    go (edge_at nd s) (eqb at i) (passed_from n a x (suc i) nodes (edge_at nd s).target s) (passed_from n a x (suc i) nodes at s) (walk_from (suc i) nodes (edge_at nd s).target s) (walk_from (suc i) nodes at s)
    (costs_add_up_from n a x (suc i) nodes (edge_at nd s).target s) (costs_add_up_from n a x (suc i) nodes at s)
  where
    go : (e : Edge) (t : Bool) (xs ys : List Step) (v w : Walk) → costs xs ≡ v.cost → costs ys ≡ w.cost
        → costs (elim t [ true ↦ edge_step n a i nd.var (get_or s nd.var 0) e ∷ xs | false ↦ ys ]) ≡ Walk.cost (elim t [ true ↦ along e v | false ↦ w ])
    go e true xs ys v w h k = ap (λ (c : ℕ). e.weight + c) h
    go e false xs ys v w h k = k

-- The costs of the steps passed add up to the cost of the action.
pub costs_add_up : (n a : ℕ) (x : Action) (s : List ℕ) → costs (steps_passed n a x s) ≡ cost x s
unfolding walk
costs_add_up n a x s = ap (λ (c : ℕ). x.incoming + c) (costs_add_up_from n a x 1 x.nodes 1 s)
