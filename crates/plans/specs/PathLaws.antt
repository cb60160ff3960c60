-- Laws of the steps of a state's walk: at a node comes that node's edge and then the steps from its target, and at the terminal the end.
use Rattle.std.specs.Prelude.{◌≡◌, ℕ, suc, ◌+◌, ◌≤◌, ◌<◌, List, [], ◌∷◌, length, get_or, take}
use Rattle.std.proofs.Common.{ap, ◌∙◌, zero-add, arith, eq-eqb, ne_eqb}
use Rattle.facts.specs.Lists.{total, At, here, there}
use Rattle.taskfile.specs.Task.{Node, edge_at}
use Rattle.compilation.specs.Compile.{edge_count}
use Rattle.plans.specs.Carry.{path_steps}

module _ (s : List ℕ) where
  steps_skip : (first i at : ℕ) (nd : Node) (nodes : List Node) → i < at → path_steps first i (nd ∷ nodes) at s ≡ path_steps (first + edge_count nd) (suc i) nodes at s
  steps_skip first i at nd nodes h = rw (ne_eqb at i (omega arith), path_steps)

  -- from node number `at`, at index j among the nodes from number i on
  pub steps_at : (first i at : ℕ) {j : ℕ} {nodes : List Node} {nd : Node} → At nodes j nd → at ≡ i + j → at < (edge_at nd s).target
      → path_steps first i nodes at s ≡ (first + (total edge_count (take j nodes) + get_or s nd.var 0)) ∷ path_steps first i nodes (edge_at nd s).target s
  steps_at first i at (here {x = nd} {xs = nodes}) e l =
      rw (steps_skip first i (edge_at nd s).target nd nodes (omega arith), eq-eqb at i (omega arith), zero-add (get_or s nd.var 0), path_steps)
  steps_at first i at {nd = nd} (there {y = y} {xs = nodes} h) e l =
      rw (steps_skip first i at y nodes (omega arith), steps_skip first i (edge_at nd s).target y nodes (omega arith))
      (steps_at (first + edge_count y) (suc i) at h (omega arith) l
      ∙ ap (λ (r : ℕ). r ∷ path_steps (first + edge_count y) (suc i) nodes (edge_at nd s).target s) (omega arith))

  -- past the last node
  pub steps_end : (first i at : ℕ) (nodes : List Node) → i + length nodes ≤ at → path_steps first i nodes at s ≡ (first + total edge_count nodes) ∷ []
  steps_end first i at [] h = ap {B = List ℕ} (λ (r : ℕ). r ∷ []) (omega arith)
  steps_end first i at (nd ∷ nodes) h =
      steps_skip first i at nd nodes (omega arith) ∙ steps_end (first + edge_count nd) (suc i) at nodes (omega arith) ∙ ap {B = List ℕ} (λ (r : ℕ). r ∷ []) (omega arith)
