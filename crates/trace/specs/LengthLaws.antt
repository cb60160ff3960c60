-- How long a trace is: for every accepted task file and every list that is taken no longer than the bench tool's buffer.
use Rattle.std.specs.Prelude.{ℕ, suc, ◌+◌, ◌*◌, ◌≤◌, ◌<◌, ◌≡◌, refl, Bool, true, false, List, [], ◌∷◌, ◌++◌, length, leb, Option, None, Some, slice_get}
use Rattle.std.proofs.Common.{subst, arith, leb-true}
use Rattle.std.proofs.Math.ListN.{length-append}
use Rattle.facts.specs.Read.{accepted}
use Rattle.facts.specs.ReadLaws.{checked, through}
use Rattle.facts.specs.Lists.{All}
use Rattle.facts.specs.ListLaws.{look, found, at_length, all_at}
use Rattle.facts.specs.Bytes.{Bytes}
use Rattle.facts.specs.Partial.{Partial, holds, apply}
use Rattle.facts.specs.PartialLaws.{inside_length, apply_inside}
use Rattle.facts.specs.State.{Inside}
use Rattle.facts.specs.WellFormed.{WfPartial}
use Rattle.facts.specs.Run.{at_most}
use Rattle.taskfile.specs.Task.{Task, max_variables as maxTaskVariables, max_weight}
use Rattle.taskfile.specs.TaskFile.{read_task}
use Rattle.taskfile.specs.PartsInPlaceLaws.{at_some}
use Rattle.probefile.specs.Probe.{Step, WfStep, max_variables, max_values, max_steps, max_list}
use Rattle.compilation.specs.Compile.{flat, variables, edge_step, end_step, node_steps, action_steps, steps_of, probe_of}
use Rattle.compilation.specs.CompiledLaws.{AcceptedTask, task_accepted}
use Rattle.compilation.proofs.CompiledLaws.{compiled_wf}
use Rattle.compilation.specs.CompiledLengthLaws.{values_most}
use Rattle.compilation.specs.StepLaws.{all_append, map_from_all, flat_all}
use Rattle.text.specs.Append.{bytes}
use Rattle.text.specs.PrintLaws.{digits_most}
use Rattle.text.specs.Text.{decimal}
use Rattle.words.specs.Words.{partial_text}
use Rattle.words.proofs.LengthLaws.{two, five, partial_most_lem, accepted_same}
use Rattle.steps.specs.Steps.{Named, names_of, check_steps}
use Rattle.steps.specs.CostLaws.{same_count}
use Rattle.steps.specs.LengthLaws.{Brief, brief_names}
use Rattle.failure.specs.Failure.{step_pre, step_eff}
use Rattle.failure.specs.LengthLaws.{fails_most}
use Rattle.trace.specs.Trace.{Entry, went, stuck, entries, values_text, state_text, step_text, went_text, stuck_text, entries_text, trace_text}
use Rattle.trace.specs.TraceFile.{traced}
use Rattle.trace.specs.TraceLaws.{from}

-- the most bytes of a trace: 448 for each entry of a list at its limit, and more than one that does not apply has beyond
abbrev pub most_trace : ℕ
most_trace = 3145728

-- ---- a step of the compilation of an accepted task

-- what it needs and sets are facts of the probe file, those of one partial state of the task and four more at most
pub record Small (sizes : List ℕ) (pre eff : Partial) : Type 0 where
  pub pre_wf : WfPartial sizes pre
  pub eff_wf : WfPartial sizes eff
  pub facts : length pre.values + length eff.values ≤ 4 + maxTaskVariables

module _ {t : Task} (ok : AcceptedTask t) where
  abbrev Few : Step → Type 0
  Few st = length st.pre.values + length st.eff.values ≤ 4 + maxTaskVariables

  few_facts : All Few (steps_of t)
  unfolding steps_of
  few_facts = flat_all (action_steps (variables t)) Few 0 t.actions (λ b a x h e.
      let n = variables t in
      let edges = flat_all (node_steps n a) Few 1 x.nodes (λ j i nd o s. map_from_all (edge_step n a i nd.var) Few 0 nd.edges (λ c d e u r. omega arith)) in
      let last : Few (end_step n a x) = simp length-append (omega (arith, values_most (ok.wf.actions h).eff, ok.limits.variables)) in
      (simp length-append (omega (arith, values_most (ok.wf.actions h).pre, ok.limits.variables)), all_append Few (flat (node_steps n a) 1 x.nodes) (end_step n a x ∷ []) edges (last, tt)))

  small_step : (k : ℕ) → k < length (names_of t) → Small (probe_of t).sizes (step_pre (probe_of t).steps k) (step_eff (probe_of t).steps k)
  unfolding probe_of
  small_step k l =
      let st = at_some (probe_of t).steps k (omega (arith, same_count t)) in
      let w = all_at (WfStep (probe_of t).sizes) (compiled_wf t ok).steps st.1 in
      rw (look st.1, step_pre, step_eff) (record { pre_wf = w.pre; eff_wf = w.eff; facts = all_at Few few_facts st.1 })

-- ---- states

-- Each value has at most two digits.
values_long : (sizes s : List ℕ) → All (λ d. (2 ≤ d) × (d ≤ max_values)) sizes → Inside sizes s → length (values_text s) ≤ 3 * length sizes
values_long [] [] small i = omega arith
values_long [] (x ∷ s) small i = absurd i
values_long (d ∷ sizes) [] small i = absurd i
values_long (d ∷ sizes) (x ∷ s) small i =
    omega (arith, length-append (bytes " " ++ decimal x) (values_text s), two x (omega (arith, small.0.1, i.0)), values_long sizes s small.1 i.1)

module _ (states : Bool) (sizes : List ℕ) (few : length sizes ≤ max_variables) (small : All (λ d. (2 ≤ d) × (d ≤ max_values)) sizes) where
  state_most : (label s : List ℕ) → Inside sizes s → length (state_text states label s) ≤ 1 + length label + 3 * max_variables
  state_most label s inside = go states
    where
      go : (t : Bool) → length (state_text t label s) ≤ 1 + length label + 3 * max_variables
      go true = simp length-append (omega (arith, few, values_long sizes s small inside))
      go false = omega arith

  -- ---- entries

  -- step number k by name
  module _ {k : ℕ} {x : Named} (number : k < max_steps) (brief : Brief x) {pre eff : Partial} (w : Small sizes pre eff) where
    name_most : length (step_text k x.name) ≤ 44
    name_most = simp length-append (omega (arith, digits_most 2 k (omega arith), brief.name))

    part_most : {p : Partial} (s : List ℕ) → Inside sizes s → WfPartial sizes p → length (partial_text (length s) p) ≤ 5 + 6 * length p.values
    part_most s inside wf = rw (← inside_length sizes s inside) (partial_most_lem {most = max_values} (omega arith) (omega arith) small wf)

    went_most : (sum : ℕ) (s : List ℕ) → sum < 1000000000 → Inside sizes s → length (went_text states x.cost pre eff sum s) ≤ 404
    went_most sum s l inside =
        simp length-append
        (omega (arith, five x.cost brief.cost, digits_most 8 sum l, part_most s inside w.pre_wf, part_most s inside w.eff_wf, w.facts, state_most (bytes "  state:") s inside))

    stuck_most : (s : List ℕ) → Inside sizes s → length (stuck_text pre s) ≤ 2048
    stuck_most s inside = simp length-append (omega (arith, part_most s inside w.pre_wf, w.facts, fails_most sizes (omega arith) (omega arith) small pre s w.pre_wf inside))

  -- The entries of a list: its first one, and those after it.
  module _ (names : List Named) (pre eff : ℕ → Partial) (numbers : length names ≤ max_steps) (brief : All Brief names) (each : (k : ℕ) → k < length names → Small sizes (pre k) (eff k)) where
    entries_most : (list s : List ℕ) (sum : ℕ) → sum + max_weight * length list < 1000000000 → Inside sizes s → length (entries_text states (entries names pre eff sum list s)) ≤ 448 * length list + 2048
    entries_most [] s sum l inside = omega arith
    entries_most (k ∷ list) s sum l inside = go (slice_get names k) refl (λ x w b. entries_most list (apply (eff k) s) (sum + x.cost) (omega (arith, b.cost)) (apply_inside (eff k) sizes s w.eff_wf.values inside))
      where
        turn : (t : Bool) (x : Named) (w : Small sizes (pre k) (eff k)) (b : Brief x) → k < max_steps → (es : List Entry) → length (entries_text states es) ≤ 448 * length list + 2048
            → length (entries_text states (elim t as (λ t. Entry) [ true ↦ went k x (pre k) (eff k) (sum + x.cost) (apply (eff k) s) | false ↦ stuck k x (pre k) s ] ∷ elim t as (λ t. List Entry) [ true ↦ es | false ↦ [] ])) ≤ 448 * suc (length list) + 2048
        turn true x w b n es m =
            omega (
              arith,
              length-append (step_text k x.name ++ went_text states x.cost (pre k) (eff k) (sum + x.cost) (apply (eff k) s)) (entries_text states es),
              length-append (step_text k x.name) (went_text states x.cost (pre k) (eff k) (sum + x.cost) (apply (eff k) s)),
              name_most n b w,
              went_most n b w (sum + x.cost) (apply (eff k) s) (omega (arith, b.cost)) (apply_inside (eff k) sizes s w.eff_wf.values inside),
            )
        turn false x w b n es m =
            omega (arith, length-append {A = ℕ} (step_text k x.name ++ stuck_text (pre k) s) [], length-append (step_text k x.name) (stuck_text (pre k) s), name_most n b w, stuck_most n b w s inside)

        go : (o : Option Named) → slice_get names k ≡ o
            → ((x : Named) (w : Small sizes (pre k) (eff k)) (b : Brief x) → length (entries_text states (entries names pre eff (sum + x.cost) list (apply (eff k) s))) ≤ 448 * length list + 2048)
            → length (entries_text states (from names pre eff k sum list s o)) ≤ 448 * suc (length list) + 2048
        go None e on = omega arith
        go (Some x) e on =
            let at = found names k e in
            let w = each k (at_length at) in
            let b = all_at Brief brief at in
            turn (holds (pre k) s) x w b (omega (arith, at_length at)) (entries names pre eff (sum + x.cost) list (apply (eff k) s)) (on x w b)

-- ---- the operation, for every file and list

pub traced_most : (states : Bool) (f list : List ℕ) → Bytes f → {text : List ℕ} → traced states f list ≡ accepted text → length text ≤ most_trace
unfolding traced trace_text at_most
traced_most states f list b h =
    let r = through (read_task f) h in
    let l = through (at_most max_list list) r.then in
    let s = through (check_steps (names_of r.got) 0 list) l.then in
    let t = r.got in
    let p = probe_of t in
    let ok = task_accepted f b r.first in
    let wf = compiled_wf t ok in
    let few = leb-true (length list) max_list (checked (leb (length list) max_list) 8 max_list l.first) in
    let steps : length (names_of t) ≤ max_steps = omega (arith, same_count t, wf.step_count) in
    let es = entries (names_of t) (step_pre p.steps) (step_eff p.steps) 0 list p.init in
    subst (λ (xs : List ℕ). length xs ≤ most_trace) (accepted_same s.then)
    (omega (
      arith,
      few,
      length-append (state_text states (bytes "initial state:") p.init) (entries_text states es),
      state_most states p.sizes wf.variables wf.sizes (bytes "initial state:") p.init wf.init,
      entries_most states p.sizes wf.variables wf.sizes (names_of t) (step_pre p.steps) (step_eff p.steps) steps (brief_names ok) (small_step ok) list p.init 0 (omega (arith, few)) wf.init,
    ))
