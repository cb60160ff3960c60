-- Laws of how long an expansion is: for each action its start, an edge for each node that its walk passes, and its end.
use Rattle.std.specs.Prelude.{◌≡◌, Bool, eqb, Option, None, Some, slice_get}
use Rattle.std.proofs.Math.Path.{refl, ap}
use Rattle.std.proofs.Common.{sym, ◌∙◌, le_trans, mul-suc, mul-le-mul_right, length-append, lt-ltb}
use Prim.Native.Nat.{ℕ, suc, ◌+◌, ◌*◌, ◌≤◌}
use native.Mathlib.Omega.{arith}
use Rattle.std.proofs.Math.Bool.{true, false}
use mathlib.Core.List.{List, [], ◌∷◌}
use Rattle.std.proofs.Math.ListN.{length}
use Rattle.facts.specs.Read.{Read, accepted, refused, with_value}
use Rattle.facts.specs.Lists.{At}
use Rattle.facts.specs.ListLaws.{look, found, at_length}
use Rattle.facts.specs.Partial.{apply}
use Rattle.facts.specs.PartialLaws.{apply_inside}
use Rattle.facts.specs.State.{Inside}
use Rattle.facts.specs.Run.{next, run_from, Reaches, ends, steps}
use Rattle.facts.specs.RunLaws.{attempt_next}
use Rattle.taskfile.specs.Task.{Node, Action, Task, edge_at, Walk, walk_from, walk, action_move, action_passes, task_sum, task_passed, task_run, Plan, max_list, max_variables, WfAction, WfTask, Limits, max_entries}
use Rattle.taskfile.specs.WalkLaws.{passed_most}
use Rattle.taskfile.specs.TaskLaws.{passes_at_lem, task_plan}
use Rattle.probefile.specs.Probe.{max_list as maxProbeList}
use Rattle.compilation.specs.Compile.{edge_count}
use Rattle.plans.specs.Carry.{first_step_of, path_steps, action_list, expand_from, expand}
use Rattle.plans.specs.RunLaws.{action_moved}
use Rattle.plans.specs.LengthLaws.{Counted}

-- ---- one action

module _ (s : List ℕ) where
  -- As many entries from node `at` on as nodes are passed from there, and one for the end.
  abbrev Entries : ℕ → ℕ → List Node → ℕ → Type 0
  Entries first i nodes at = length (path_steps first i nodes at s) ≡ suc (walk_from i nodes at s).passed

  -- One node more: it is passed or not.
  entries_node : (first i : ℕ) (nd : Node) (nodes : List Node) (at : ℕ) → ((at : ℕ) → Entries (first + edge_count nd) (suc i) nodes at) → (b : Bool) → eqb at i ≡ b → Entries first i (nd ∷ nodes) at
  unfolding walk_from
  entries_node first i nd nodes at on true e = rw (e, path_steps, walk_from) (ap suc (on (edge_at nd s).target))
  entries_node first i nd nodes at on false e = rw (e, path_steps, walk_from) (on at)

  -- Whatever the nodes.
  entries : (first i : ℕ) (nodes : List Node) (at : ℕ) → Entries first i nodes at
  unfolding walk_from
  entries first i [] at = refl
  entries first i (nd ∷ nodes) at = entries_node first i nd nodes at (entries (first + edge_count nd) (suc i) nodes) (eqb at i) refl

-- An action's list has its start, an entry for each node passed, and its end.
pub action_entries : (first : ℕ) (x : Action) (s : List ℕ) → length (action_list first x s) ≡ 2 + (walk x s).passed
unfolding walk
action_entries first x s = omega (arith, entries s (suc first) 1 x.nodes 1)

-- The entries of an action, and of the actions after it.
pub expand_more : (actions : List Action) {a : ℕ} {x : Action} (list s : List ℕ) → At actions a x
    → length (expand_from actions (a ∷ list) s) ≡ 2 + (walk x s).passed + length (expand_from actions list (apply x.eff s))
expand_more actions {a} {x} list s h =
    let more = expand_from actions list (apply x.eff s) in
    rw (look h, expand_from) (length-append (action_list (first_step_of actions a) x s) more ∙ ap (λ (k : ℕ). k + length more) (action_entries (first_step_of actions a) x s))

-- ---- plans

module _ (t : Task) where
  -- The same from the state s on, where `total` nodes were passed before.
  record CountedFrom (list s : List ℕ) (i total : ℕ) : Type 0 where
    passed : ℕ
    run : run_from (length t.actions) (action_passes t.actions) t.goal i total list s ≡ accepted passed
    exactly : total + length (expand_from t.actions list s) ≡ 2 * length list + passed

  counted_from : (list s : List ℕ) (i total sum c : ℕ) → Reaches (action_move t.actions) t.goal sum list s c → CountedFrom list s i total
  unfolding run_from
  counted_from [] s i total sum c (ends g) = record { passed = total; run = rw g; exactly = omega arith }
  counted_from (a ∷ list) s i total sum c (steps {paid = paid} {s' = s'} m r) =
      let w = action_moved t.actions a s m in
      let x = w.x in
      let after : action_passes t.actions a s ≡ next s' (walk x s).passed =
      passes_at_lem t.actions s w.element ∙ attempt_next x.pre x.eff (walk x s).passed s w.applied.applies ∙ ap (λ (e : List ℕ). next e (walk x s).passed) w.applied.state in
      let rest = counted_from list s' (suc i) (total + (walk x s).passed) (sum + paid) c r in
      let more = expand_more t.actions list s w.element ∙ ap (λ (e : List ℕ). 2 + (walk x s).passed + length (expand_from t.actions list e)) w.applied.state in
      record {
        passed = rest.passed;
        run = rw (lt-ltb a (length t.actions) (at_length w.element), after) rest.run;
        exactly = omega (arith, rest.exactly, more);
      }

  -- Of every plan, of any length: the number of nodes passed is answered with its sum, and its expansion has two entries for each action and one for each node passed.
  pub plan_counted : (list : List ℕ) (c : ℕ) → Plan t list c → Counted t list c
  unfolding task_passed task_run expand
  plan_counted list c p =
      let k = counted_from list t.init 0 0 0 c p in
      record { total = k.passed; run = rw ((task_plan t list c).0 p, k.run); exactly = omega (arith, k.exactly) }

  -- So a run's sum is what it was without the nodes, and so are its refusals.
  pub run_sum : (list : List ℕ) → with_value (λ (w : Walk). w.cost) (task_run t list) ≡ task_sum t list
  unfolding task_run
  run_sum list = go (task_sum t list) refl
    where
      go : (r : Read ℕ) → task_sum t list ≡ r → with_value (λ (w : Walk). w.cost) (task_run t list) ≡ r
      go (accepted c) e = ap (with_value (λ (w : Walk). w.cost)) (plan_counted list c ((task_plan t list c).1 e)).run
      go (refused n p) e = rw e

  -- And a list whose run answers is such a plan.
  pub run_counted : (list : List ℕ) (w : Walk) → task_run t list ≡ accepted w → Plan t list w.cost × (length (expand t list) ≡ 2 * length list + w.passed)
  run_counted list w h =
      let plan = (task_plan t list w.cost).1 (sym (run_sum list) ∙ ap (with_value (λ (w : Walk). w.cost)) h) in
      let counted = plan_counted list w.cost plan in
      let same : record { cost = w.cost; passed = counted.total } ≡ w = cc (counted.run, h) in
      (plan, counted.exactly ∙ ap (λ (w : Walk). 2 * length list + w.passed) same)

-- ---- whole lists

module _ {sizes : List ℕ} {actions : List Action} (wf : (a : ℕ) (x : Action) → At actions a x → WfAction sizes x) where
  -- No more entries for an action than there are variables, and two, whether or not the list is a plan: a walk passes each variable at most once.
  abbrev Bounded : List ℕ → Type 0
  Bounded list = (s : List ℕ) → Inside sizes s → length (expand_from actions list s) ≤ (2 + length sizes) * length list

  -- One entry more: it has an action or not.
  bounded_entry : (a : ℕ) (list : List ℕ) → Bounded list → (o : Option Action) → slice_get actions a ≡ o → Bounded (a ∷ list)
  bounded_entry a list on None e s inside = rw (e, expand_from) (omega arith)
  bounded_entry a list on (Some x) e s inside =
      let h = found actions a e in
      omega (
        arith,
        mul-suc (2 + length sizes) (length list),
        passed_most (wf a x h) s inside,
        expand_more actions list s h,
        on (apply x.eff s) (apply_inside x.eff sizes s (wf a x h).eff.values inside),
      )

  -- Whatever the list.
  expand_most : (list : List ℕ) → Bounded list
  expand_most [] s inside = omega arith
  expand_most (a ∷ list) s inside = bounded_entry a list (expand_most list) (slice_get actions a) refl s inside

  -- With at most 24 variables, at most 26 entries for an action.
  pub action_limit : length sizes ≤ max_variables → (first : ℕ) {a : ℕ} {x : Action} → At actions a x → (s : List ℕ) → Inside sizes s → length (action_list first x s) ≤ 26
  action_limit few first {a} {x} h s inside = omega (arith, action_entries first x s, passed_most (wf a x h) s inside)

  -- And so for each of a list.
  pub expand_limit : length sizes ≤ max_variables → (list s : List ℕ) → Inside sizes s → length (expand_from actions list s) ≤ max_entries * length list
  expand_limit few list s inside = le_trans (expand_most list s inside) (mul-le-mul_right (length list) (omega arith))

module _ (t : Task) (wf : WfTask t) (limits : Limits t) (list : List ℕ) where
  -- So with the expansion of a list from the initial state.
  pub expand_entries : length (expand t list) ≤ max_entries * length list
  unfolding expand
  expand_entries = expand_limit {sizes = t.sizes} {actions = t.actions} (λ a x h. wf.actions h) limits.variables list t.init wf.init

  -- That of at most 256 actions is within the limit of probe lists.
  pub expand_fits : length list ≤ max_list → length (expand t list) ≤ maxProbeList
  expand_fits few = omega (arith, expand_entries)

  -- Document 02, W7, over values, for plans of any length: "The expanded list has twice the actions plus that total, so at most 26 steps an action."
  pub long_plan : (c : ℕ) → Plan t list c → Counted t list c × (length (expand t list) ≤ 26 * length list)
  long_plan c p = (plan_counted t list c p, expand_entries)
