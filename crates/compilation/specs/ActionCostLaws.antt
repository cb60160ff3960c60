-- The steps that an action passes, and what they cost together. That this is what the action costs: proofs/ActionCostLaws.antt. Document 01, "The probe file", "Running on a task".
use Rattle.std.specs.Prelude.{ℕ, suc, true, false, List, [], ◌∷◌, eqb, get_or}
use Rattle.facts.specs.Lists.{total}
use Rattle.taskfile.specs.Task.{Node, Action, edge_at}
use Rattle.probefile.specs.Probe.{Step}
use Rattle.compilation.specs.Compile.{start_step, edge_step, end_step}

-- The steps that the state s passes from node `at` to the terminal, the end among them, where `nodes` are those from number i on: of each node the edge for the state's value.
abbrev pub passed_from : ℕ → ℕ → Action → ℕ → List Node → ℕ → List ℕ → List Step
passed_from n a x i [] at s = end_step n a x ∷ []
passed_from n a x i (nd ∷ nodes) at s =
    elim (eqb at i) [
      | true ↦ edge_step n a i nd.var (get_or s nd.var 0) (edge_at nd s) ∷ passed_from n a x (suc i) nodes (edge_at nd s).target s
      | false ↦ passed_from n a x (suc i) nodes at s
    ]

-- those of an action: its start, the edges passed from node 1, its end
abbrev pub steps_passed : ℕ → ℕ → Action → List ℕ → List Step
steps_passed n a x s = start_step n a x ∷ passed_from n a x 1 x.nodes 1 s

abbrev pub costs : List Step → ℕ
costs = total (λ (st : Step). st.cost)
