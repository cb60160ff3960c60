-- The probe of an accepted task is well-formed, and so what is written for its file is read back as its compilation.
use Rattle.std.specs.Prelude.{◌≡◌, ℕ, suc, ◌≤◌, ◌<◌, length}
use Rattle.std.proofs.Common.{sym, subst}
use native.Mathlib.Omega.{arith}
use mathlib.Core.List.{List, [], ◌∷◌, map}
use Rattle.std.proofs.Math.ListN.{replicate}
use Rattle.facts.specs.Read.{accepted}
use Rattle.facts.specs.Lists.{All, At}
use Rattle.facts.specs.ListLaws.{at_length, all_at, total_at}
use Rattle.facts.specs.Bytes.{Bytes}
use Rattle.facts.specs.Partial.{Partial, empty}
use Rattle.facts.specs.State.{Inside}
use Rattle.facts.specs.WellFormed.{WfPartial}
use Rattle.taskfile.specs.Task.{Edge, Node, Action, Task}
use Rattle.taskfile.specs.TaskFile.{read_task}
use Rattle.probefile.specs.Probe.{WfStep, WfProbe, max_values}
use Rattle.probefile.specs.ProbeFile.{read_probe, write_probe}
use Rattle.probefile.specs.ProbeLaws.{read_written}
use Rattle.compilation.specs.Extend.{extend}
use Rattle.compilation.specs.Compile.{flat, variables, marker, start_step, edge_step, end_step, node_steps, action_steps, steps_of, marker_size, probe_of}
use Rattle.compilation.specs.StepLaws.{at_all, all_append, all_map, all_get_d, map_from_all, flat_all, steps_most}
use Rattle.compilation.specs.CompiledLaws.{FactsBelow, facts_wf, facts_more, facts_empty, facts_extend, facts_clear, inside_append, AcceptedTask, task_accepted, all_sizes, sizes_length, task_size, semaphore_size, marker_size_lem, task_facts_lem}

-- ---- values inside their domains

-- Markers at 0 are inside their domains.
markers_inside : (actions : List Action) → Inside (map marker_size actions) (replicate (length actions) 0)
markers_inside [] = tt
markers_inside (x ∷ actions) = (omega arith, markers_inside actions)

-- ---- the probe of a task

module _ (t : Task) where
  -- The semaphore is set above the task's variables.
  with_semaphore : {p : Partial} (x : ℕ) → FactsBelow (all_sizes t) (variables t) p → x < 2 → FactsBelow (all_sizes t) (suc (variables t)) (extend p (variables t) x)
  with_semaphore x h l = facts_extend (variables t) x h (omega arith) (omega (arith, semaphore_size t))

  -- A marker is set above the semaphore.
  with_marker : {p : Partial} {a : ℕ} {x : Action} (i : ℕ) → At t.actions a x → FactsBelow (all_sizes t) (suc (variables t)) p → i < marker_size x → WfPartial (all_sizes t) (extend p (marker (variables t) a) i)
  with_marker {a = a} i h g l = facts_wf (facts_extend (marker (variables t) a) i g (omega arith) (omega (arith, marker_size_lem t h))) (omega (arith, sizes_length t, at_length h))

  module _ (ok : AcceptedTask t) where
    -- The start of an action is well-formed.
    start_wf : {a : ℕ} {x : Action} → At t.actions a x → WfStep (all_sizes t) (start_step (variables t) a x)
    start_wf h = record {
      pre = with_marker 0 h (with_semaphore 0 (task_facts_lem t (ok.wf.actions h).pre) (omega arith)) (omega arith);
      eff = with_marker 1 h (with_semaphore 1 (facts_empty (variables t)) (omega arith)) (omega arith);
      cost = (ok.weights h).incoming;
    }

    -- The edge for the value d of node number j + 1 is well-formed.
    edge_wf : {a : ℕ} {x : Action} {j : ℕ} {nd : Node} {d : ℕ} {e : Edge} → At t.actions a x → At x.nodes j nd → At nd.edges d e
        → WfStep (all_sizes t) (edge_step (variables t) a (suc j) nd.var d e)
    edge_wf {x = x} {j = j} {nd = nd} {d = d} {e = e} h n i =
        let w = (ok.wf.actions h).nodes n in
        let g : FactsBelow (all_sizes t) (suc nd.var) (extend empty nd.var d) =
        facts_extend nd.var d (facts_empty nd.var) (omega arith) (omega (arith, at_length i, w.edge_count_lem, task_size t nd.var w.var_below)) in
        record {
          pre = with_marker (suc j) h (facts_more g (omega (arith, w.var_below))) (omega (arith, at_length n));
          eff = with_marker e.target h (facts_empty (suc (variables t))) (omega (arith, (w.edges i).within));
          cost = omega (arith, (ok.weights h).edges n i);
        }

    -- The end of an action is well-formed.
    end_wf : {a : ℕ} {x : Action} → At t.actions a x → WfStep (all_sizes t) (end_step (variables t) a x)
    end_wf {x = x} h = record {
      pre = with_marker (suc (length x.nodes)) h (facts_empty (suc (variables t))) (omega arith);
      eff = with_marker 0 h (with_semaphore 0 (task_facts_lem t (ok.wf.actions h).eff) (omega arith)) (omega arith);
      cost = omega arith;
    }

    -- Each step of a node is well-formed; the node's number is one more than its index.
    node_wf : {a : ℕ} {x : Action} {j : ℕ} {nd : Node} (i : ℕ) → At t.actions a x → At x.nodes j nd → i ≡ suc j → All (WfStep (all_sizes t)) (node_steps (variables t) a i nd)
    node_wf {a} {nd = nd} i h n e =
        map_from_all (edge_step (variables t) a i nd.var) (WfStep (all_sizes t)) 0 nd.edges (λ d q g u o.
        let number : q ≡ d = omega arith in
        rw (e, number) (edge_wf h n u))

    -- Each step of an action is well-formed.
    action_steps_wf : {a : ℕ} {x : Action} → At t.actions a x → All (WfStep (all_sizes t)) (action_steps (variables t) a x)
    action_steps_wf {a} {x} h = (
      start_wf h,
      all_append (WfStep (all_sizes t)) (flat (node_steps (variables t) a) 1 x.nodes) (end_step (variables t) a x ∷ [])
          (flat_all (node_steps (variables t) a) (WfStep (all_sizes t)) 1 x.nodes (λ j q nd n e. node_wf q h n (omega arith)))
          (end_wf h, tt),
    )

    -- Each step is well-formed.
    pub steps_wf : All (WfStep (all_sizes t)) (steps_of t)
    unfolding steps_of
    steps_wf =
        flat_all (action_steps (variables t)) (WfStep (all_sizes t)) 0 t.actions (λ a q x h e.
        let number : q ≡ a = omega arith in
        subst (λ (k : ℕ). All (WfStep (all_sizes t)) (action_steps (variables t) k x)) (sym number) (action_steps_wf h))

    -- Each domain has 2 to 66 values.
    pub sizes_fit : All (λ d. (2 ≤ d) × (d ≤ max_values)) (all_sizes t)
    sizes_fit =
        all_append (λ d. (2 ≤ d) × (d ≤ max_values)) t.sizes (2 ∷ map marker_size t.actions)
        (at_all (λ d. (2 ≤ d) × (d ≤ max_values)) t.sizes (λ j d h. omega (arith, all_at (λ d. (2 ≤ d) × (d ≤ 8)) ok.limits.sizes h)))
        (omega arith, all_map marker_size (λ d. (2 ≤ d) × (d ≤ max_values)) t.actions (at_all (λ x. (2 ≤ marker_size x) × (marker_size x ≤ max_values)) t.actions (λ j x h. omega (arith, total_at (λ x. length x.nodes) h, ok.limits.nodes))))

    -- The probe of an accepted task is well-formed: at most 57 variables of at most 66 values, and at most 576 steps.
    pub compiled_wf : WfProbe (probe_of t)
    unfolding probe_of
    compiled_wf = record {
      some_variable = omega (arith, sizes_length t);
      variables = omega (arith, sizes_length t, ok.limits.variables, ok.limits.actions);
      sizes = sizes_fit;
      init = inside_append t.sizes (2 ∷ map marker_size t.actions) t.init (0 ∷ replicate (length t.actions) 0) ok.wf.init (omega arith, markers_inside t.actions);
      goal = facts_wf (facts_clear (variables t) (suc (length t.actions)) (task_facts_lem t ok.wf.goal) (λ w l. omega (arith, all_get_d (λ d. (2 ≤ d) × (d ≤ max_values)) (all_sizes t) w sizes_fit (omega (arith, sizes_length t))))) (omega (arith, sizes_length t));
      step_count = steps_most t ok.wf ok.limits;
      steps = steps_wf;
    }

-- What is written for the task of an accepted file is read back as its compilation.
pub compiled_reads : (f : List ℕ) → Bytes f → {t : Task} → read_task f ≡ accepted t → read_probe (write_probe (probe_of t)) ≡ accepted (probe_of t)
compiled_reads f bytes {t} h = read_written (probe_of t) (compiled_wf t (task_accepted f bytes h))
