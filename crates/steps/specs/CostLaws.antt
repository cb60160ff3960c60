-- The steps by name are those of the probe file written from the task: their costs are the same, in order.
use Rattle.std.specs.Prelude.{ℕ, suc, ◌≡◌, refl, List, [], ◌∷◌, ◌++◌, map, length}
use Rattle.std.proofs.Common.{sym, ap, ap₂, ◌∙◌}
use Rattle.std.proofs.lemmas.List.{length-map}
use Rattle.taskfile.specs.Task.{Edge, Node, Action, Task}
use Rattle.probefile.specs.Probe.{Step}
use Rattle.compilation.specs.Compile.{map_from, flat, variables, edge_step, node_steps, action_steps, end_step, steps_of, probe_of}
use Rattle.steps.specs.Steps.{node, end, Named, node_names, action_names, names_of}

-- the costs of steps by name, and of steps
abbrev pub costs_of : List Named → List ℕ
costs_of xs = map (λ (x : Named). x.cost) xs

abbrev pub step_costs : List Step → List ℕ
step_costs xs = map (λ (x : Step). x.cost) xs

-- The costs of two rows.
both : {A : Type 0} (cost : A → ℕ) (xs ys : List A) → map cost (xs ++ ys) ≡ map cost xs ++ map cost ys
both cost [] ys = refl
both cost (x ∷ xs) ys = ap (λ (l : List ℕ). cost x ∷ l) (both cost xs ys)

-- Rows whose parts cost the same.
flat_costs : {A : Type 0} (names : ℕ → A → List Named) (steps : ℕ → A → List Step) → ((k : ℕ) (x : A) → costs_of (names k x) ≡ step_costs (steps k x))
    → (k : ℕ) (xs : List A) → costs_of (flat names k xs) ≡ step_costs (flat steps k xs)
flat_costs names steps h k [] = refl
flat_costs names steps h k (x ∷ xs) =
    both (λ (y : Named). y.cost) (names k x) (flat names (suc k) xs)
    ∙ ap₂ (λ (a b : List ℕ). a ++ b) (h k x) (flat_costs names steps h (suc k) xs)
    ∙ sym (both (λ (y : Step). y.cost) (steps k x) (flat steps (suc k) xs))

module _ (n a : ℕ) where
  -- The steps of a node.
  edge_costs : (i v d : ℕ) (edges : List Edge) → costs_of (map_from (λ d (e : Edge). record { name = node a i v d; cost = e.weight }) d edges) ≡ step_costs (map_from (edge_step n a i v) d edges)
  edge_costs i v d [] = refl
  edge_costs i v d (e ∷ edges) = ap (λ (l : List ℕ). e.weight ∷ l) (edge_costs i v (suc d) edges)

  -- The steps of an action.
  action_costs : (x : Action) → costs_of (action_names a x) ≡ step_costs (action_steps n a x)
  action_costs x =
      ap (λ (l : List ℕ). x.incoming ∷ l)
      (both (λ (y : Named). y.cost) (flat (node_names a) 1 x.nodes) (record { name = end a; cost = 0 } ∷ [])
      ∙ ap (λ (l : List ℕ). l ++ (0 ∷ [])) (flat_costs (node_names a) (node_steps n a) (λ i (nd : Node). edge_costs i nd.var 0 nd.edges) 1 x.nodes)
      ∙ sym (both (λ (y : Step). y.cost) (flat (node_steps n a) 1 x.nodes) (end_step n a x ∷ [])))

-- The costs are the same, in order.
pub same_costs : (t : Task) → map (λ (x : Named). x.cost) (names_of t) ≡ map (λ (x : Step). x.cost) (probe_of t).steps
unfolding names_of probe_of steps_of
same_costs t = flat_costs action_names (action_steps (variables t)) (λ a x. action_costs (variables t) a x) 0 t.actions

-- So there are as many.
pub same_count : (t : Task) → length (names_of t) ≡ length (probe_of t).steps
same_count t = sym (length-map (names_of t) (λ (x : Named). x.cost)) ∙ ap length (same_costs t) ∙ length-map (probe_of t).steps (λ (x : Step). x.cost)
