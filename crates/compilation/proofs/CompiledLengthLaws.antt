-- How long the file written for a task is: at most 13,846 bytes.
use Rattle.std.specs.Prelude.{◌≡◌, refl, ℕ, suc, ◌+◌, ◌*◌, ◌≤◌, List, [], ◌∷◌, ◌++◌, length, replicate}
use Rattle.std.proofs.Common.{arith, length-append}
use Rattle.std.proofs.lemmas.List.{length-replicate}
use Rattle.facts.specs.Read.{accepted}
use Rattle.facts.specs.Lists.{total, All}
use Rattle.facts.specs.PartialLaws.{inside_length}
use Rattle.taskfile.specs.Task.{Edge, Node, Action, Task, WfAction, WfTask, Limits, max_written, max_variables}
use Rattle.taskfile.specs.TaskFile.{read_task}
use Rattle.taskfile.specs.DiagramReadLaws.{Small}
use Rattle.taskfile.proofs.TaskReadLaws.{task_wf, task_limits}
use Rattle.probefile.specs.ProbeFile.{write_probe}
use Rattle.compilation.specs.Compile.{map_from, flat, variables, start_step, edge_step, end_step, node_steps, action_steps, steps_of, edge_count, probe_of}
use Rattle.compilation.specs.StepLaws.{at_all, total_append, action_edges}
use Rattle.compilation.specs.CompiledLaws.{sizes_length}
use Rattle.compilation.specs.CompiledLengthLaws.{step_bytes, probe_written, values_most, clear_length}

-- ---- the steps of a compiled task

-- The start has the precondition, two facts more, and two facts.
start_bytes : (n a : ℕ) (x : Action) → step_bytes (start_step n a x) ≡ 22 + length x.pre.values
start_bytes n a x = simp length-append (omega arith)

-- The end has one fact, the effect, and two facts more.
end_bytes : (n a : ℕ) (x : Action) → step_bytes (end_step n a x) ≡ 21 + length x.eff.values
end_bytes n a x = simp length-append (omega arith)

-- Each edge has two facts and one.
node_bytes_lem : (n a i v d : ℕ) (edges : List Edge) → total step_bytes (map_from (edge_step n a i v) d edges) ≡ 21 * length edges
node_bytes_lem n a i v d [] = refl
node_bytes_lem n a i v d (e ∷ edges) = omega (arith, node_bytes_lem n a i v (suc d) edges)

-- The edges of all nodes.
nodes_bytes : (n a i : ℕ) (nodes : List Node) → total step_bytes (flat (node_steps n a) i nodes) ≡ 21 * total edge_count nodes
nodes_bytes n a i [] = refl
nodes_bytes n a i (nd ∷ nodes) =
    omega (arith, total_append step_bytes (node_steps n a i nd) (flat (node_steps n a) (suc i) nodes), node_bytes_lem n a i nd.var 0 nd.edges, nodes_bytes n a (suc i) nodes)

-- The steps of an action: its start, those of its edges, its end.
pub action_total : (n a : ℕ) (x : Action) → total step_bytes (action_steps n a x) ≡ 43 + length x.pre.values + length x.eff.values + 21 * total edge_count x.nodes
action_total n a x = omega (arith, total_append step_bytes (flat (node_steps n a) 1 x.nodes) (end_step n a x ∷ []), start_bytes n a x, end_bytes n a x, nodes_bytes n a 1 x.nodes)

module _ (sizes : List ℕ) (few : length sizes ≤ max_variables) (small : Small sizes) where
  -- The steps of an action have at most 91 bytes, and 168 for each node.
  action_bytes : (n a : ℕ) (x : Action) → WfAction sizes x → total step_bytes (action_steps n a x) ≤ 91 + 168 * length x.nodes
  action_bytes n a x w = omega (arith, few, action_total n a x, action_edges small w, values_most w.pre, values_most w.eff)

  -- The steps of all actions.
  actions_bytes : (n k : ℕ) (actions : List Action) → All (WfAction sizes) actions
      → total step_bytes (flat (action_steps n) k actions) ≤ 91 * length actions + 168 * total (λ x. length x.nodes) actions
  actions_bytes n k [] h = omega arith
  actions_bytes n k (x ∷ actions) h = omega (arith, total_append step_bytes (action_steps n k x) (flat (action_steps n) (suc k) actions), action_bytes n k x h.0, actions_bytes n (suc k) actions h.1)

-- ---- the file

-- The file of a well-formed task inside the limits has at most 13,846 bytes.
pub compiled_most : (t : Task) → WfTask t → Limits t → length (write_probe (probe_of t)) ≤ max_written
unfolding probe_of steps_of
compiled_most t wf limits =
    let n = variables t in
    let A = length t.actions in
    let init : length (t.init ++ (0 ∷ replicate A 0)) ≡ length t.init + suc A = simp (length-append, length-replicate {A = ℕ} A 0) in
    omega (
      arith,
      probe_written (probe_of t),
      sizes_length t,
      init,
      clear_length t.goal n (suc A),
      inside_length t.sizes t.init wf.init,
      values_most wf.goal,
      actions_bytes t.sizes limits.variables limits.sizes n 0 t.actions (at_all (WfAction t.sizes) t.actions (λ a x h. wf.actions h)),
      limits.nodes,
      limits.actions,
      limits.variables,
    )

-- The file written for the task of an accepted file has at most 13,846 bytes.
pub compiled_length : (f : List ℕ) {t : Task} → read_task f ≡ accepted t → length (write_probe (probe_of t)) ≤ max_written
compiled_length f {t} h = compiled_most t (task_wf f h) (task_limits f h)
