-- How long the texts are: for every accepted file and list no longer than the bench tool's buffer.
use Rattle.std.specs.Prelude.{ℕ, zero, suc, ◌+◌, ◌*◌, ◌%◌, ◌≤◌, ◌<◌, ◌≡◌, Bool, eqb, ltb, leb, length, get_or}
use Rattle.std.proofs.Math.Path.{subst}
use Rattle.std.proofs.Math.Bool.{true, false}
use mathlib.Core.List.{List, [], ◌∷◌, ◌++◌}
use native.Mathlib.Omega.{arith}
use Rattle.std.proofs.Common.{length-append}
use borrow.Author.Tests.{ltb-true, leb-true}
use Rattle.facts.specs.Read.{accepted, check}
use Rattle.facts.specs.ReadLaws.{through, checked, made}
use Rattle.facts.specs.Lists.{All}
use Rattle.facts.specs.ListLaws.{look, all_at}
use Rattle.facts.specs.Bytes.{Bytes}
use Rattle.facts.specs.Partial.{Partial, above, holds, apply}
use Rattle.facts.specs.PartialLaws.{inside_length, apply_inside}
use Rattle.facts.specs.State.{Inside}
use Rattle.facts.specs.WellFormed.{Fits, Values, WfPartial}
use Rattle.facts.specs.Run.{at_most}
use Rattle.taskfile.specs.Task.{max_list, max_values as maxTaskValues}
use Rattle.taskfile.specs.TaskFile.{read_task}
use Rattle.taskfile.specs.PartsInPlaceLaws.{at_some}
use Rattle.taskfile.proofs.TaskReadLaws.{task_wf, task_limits}
use Rattle.probefile.specs.Probe.{WfStep, max_variables, max_values, max_list as maxProbeList}
use Rattle.probefile.specs.ProbeFile.{read_probe}
use Rattle.probefile.specs.ProbeLaws.{probe_wf}
use Rattle.text.specs.Text.{decimal}
use Rattle.text.specs.Append.{bytes}
use Rattle.text.specs.PrintLaws.{digits_most}
use Rattle.words.specs.Words.{bits_text}
use Rattle.words.proofs.LengthLaws.{two}
use Rattle.failure.specs.Failure.{unlike_text, failed_text, failures_text, Halt, stopped, ended, onward, halt_from, goal_text, halt_text, failure, action_pre, action_eff, step_pre, step_eff, task_failure, probe_failure}

-- the most bytes of why a list is no plan
abbrev pub most_failure : ℕ
most_failure = 4096

-- ---- facts that fail

unlike_most : (v d x : ℕ) → v < 100 → d < 100 → x < 100 → length (unlike_text v d x) ≤ 32
unlike_most v d x l m k = go (eqb d x)
  where
    go : (t : Bool) → length {A = ℕ} (elim t [ true ↦ [] | false ↦ bytes "  " ++ (decimal v ++ (bytes "=" ++ (decimal d ++ (bytes ", but variable " ++ (decimal v ++ (bytes " is " ++ (decimal x ++ bytes "\n"))))))) ]) ≤ 32
    go true = omega arith
    go false = simp length-append (omega (arith, two v l, two d m, two x k))

failed_most : (x v b d : ℕ) (values : List ℕ) → v < 100 → x < 100 → d ≤ 100 → Fits b values d → length (failed_text x v b values) ≤ 32
failed_most x v zero d values l k m h = omega arith
failed_most x v (suc b) d [] l k m h = absurd h
failed_most x v (suc b) d (y ∷ values) l k m h = unlike_most v y x l (omega arith) k

-- Where each value of a state is below 100.
failures_most : {most : ℕ} (s sizes : List ℕ) (v : ℕ) (p : Partial) → most ≤ 100 → ((k : ℕ) → get_or s k 0 < 100) → v + length sizes ≤ 100 → All (λ d. (2 ≤ d) × (d ≤ most)) sizes → Values p sizes
    → length (bits_text (λ v. failed_text (get_or s v 0) v) (length sizes) v p) ≤ 32 * length sizes
failures_most s [] v p few low l small h = omega arith
failures_most s (d ∷ sizes) v p few low l small h =
    omega (
      arith,
      length-append (failed_text (get_or s v 0) v (p.map % 2) p.values) (bits_text (λ v. failed_text (get_or s v 0) v) (length sizes) (suc v) (above p)),
      failed_most (get_or s v 0) v (p.map % 2) d p.values (omega arith) (low v) (omega (arith, small.0.1)) h.0,
      failures_most s sizes (suc v) (above p) few low (omega arith) small.1 h.1,
    )

-- A state inside its domains.
low_values : {most : ℕ} (sizes s : List ℕ) → most ≤ 100 → All (λ d. (2 ≤ d) × (d ≤ most)) sizes → Inside sizes s → (k : ℕ) → get_or s k 0 < 100
low_values [] [] few small i k = omega arith
low_values [] (x ∷ s) few small i k = absurd i
low_values (d ∷ sizes) [] few small i k = absurd i
low_values (d ∷ sizes) (x ∷ s) few small i zero = omega (arith, i.0, small.0.1)
low_values (d ∷ sizes) (x ∷ s) few small i (suc k) = low_values sizes s few small.1 i.1 k

-- All facts of a partial state, at most 32 bytes for each variable.
pub fails_most : {most : ℕ} (sizes : List ℕ) → most ≤ 100 → length sizes ≤ 100 → All (λ d. (2 ≤ d) × (d ≤ most)) sizes → (p : Partial) (s : List ℕ) → WfPartial sizes p → Inside sizes s
    → length (failures_text p s) ≤ 32 * length sizes
fails_most sizes few l small p s w inside = rw (← inside_length sizes s inside) (failures_most s sizes 0 p few (low_values sizes s few small inside) (omega arith) small w.values)

-- ---- where a run comes to its end

module _ (sizes : List ℕ) where
  -- its state is inside the domains, and the precondition is one of the file's
  abbrev Good : ℕ → ℕ → Halt → Type 0
  Good count most (stopped i a p s) = (i < most) × (a < count) × WfPartial sizes p × Inside sizes s
  Good count most (ended s) = Inside sizes s

  module _ (count : ℕ) (pre eff : ℕ → Partial) (wf : (a : ℕ) → a < count → WfPartial sizes (pre a) × WfPartial sizes (eff a)) where
    halt_good : (list s : List ℕ) (i most : ℕ) {h : Halt} → i + length list ≤ most → Inside sizes s → halt_from count pre eff i list s ≡ accepted h → Good count most h
    unfolding halt_from
    halt_good [] s i most {h} l inside e = let same : ended s ≡ h = cc in subst (Good count most) same inside
    halt_good (a ∷ list) s i most {h} l inside e =
        let o = through (check (ltb a count) 11 i) e in
        let known = ltb-true a count (checked (ltb a count) 11 i o.first) in
        go (holds (pre a) s) known (λ g. halt_good list (apply (eff a) s) (suc i) most (omega arith) (apply_inside (eff a) sizes s (wf a known).1.values inside) g) o.then
      where
        go : (t : Bool) → a < count → (halt_from count pre eff (suc i) list (apply (eff a) s) ≡ accepted h → Good count most h)
            → onward t (stopped i a (pre a) s) (λ u. halt_from count pre eff (suc i) list (apply (eff a) s)) ≡ accepted h → Good count most h
        go true known k g = k g
        go false known k g = let same : stopped i a (pre a) s ≡ h = cc in subst (Good count most) same (omega arith, known, (wf a known).0, inside)

    -- The text of an accepted file with at most 57 variables of at most 66 values, and a list of at most 10000 entries.
    module _ {most : ℕ} (label : List ℕ) (goal : Partial) (few : most ≤ 100) (variables : length sizes ≤ max_variables) (small : All (λ d. (2 ≤ d) × (d ≤ most)) sizes) (brief : length label ≤ 7) (numbers : count ≤ 1000) where
      all_most : (p : Partial) (s : List ℕ) → WfPartial sizes p → Inside sizes s → length (failures_text p s) ≤ 32 * max_variables
      all_most p s w inside = omega (arith, fails_most sizes few (omega arith) small p s w inside)

      text_most : WfPartial sizes goal → (h : Halt) → Good count 10000 h → length (halt_text label goal h) ≤ most_failure
      text_most g (stopped i a p s) good =
          simp length-append (omega (arith, digits_most 3 i good.0, digits_most 2 a (omega (arith, good.1)), all_most p s good.2 good.3))
      text_most g (ended s) good = go (holds goal s)
        where
          go : (t : Bool) → length (goal_text t (failures_text goal s)) ≤ most_failure
          go true = omega arith
          go false = simp length-append (omega (arith, all_most goal s g good))

      pub failure_most : WfPartial sizes goal → (list s : List ℕ) {text : List ℕ} → length list ≤ 10000 → Inside sizes s → failure label count pre eff goal list s ≡ accepted text → length text ≤ most_failure
      failure_most g list s l inside e =
          let m = made (halt_text label goal) (halt_from count pre eff 0 list s) e in
          subst (λ (xs : List ℕ). length xs ≤ most_failure) m.value (text_most g m.from (halt_good list s 0 10000 (omega arith) inside m.answer))

-- ---- the operations, for every file and list

pub task_failure_most : (f list : List ℕ) {text : List ℕ} → task_failure f list ≡ accepted text → length text ≤ most_failure
unfolding task_failure at_most
task_failure_most f list h =
    let r = through (read_task f) h in
    let l = through (at_most max_list list) r.then in
    let t = r.got in
    let ok = task_wf f r.first in
    let limits = task_limits f r.first in
    let few = leb-true (length list) max_list (checked (leb (length list) max_list) 8 max_list l.first) in
    failure_most t.sizes (length t.actions) (action_pre t.actions) (action_eff t.actions)
    (λ a known. let x = at_some t.actions a known in (rw (look x.1, action_pre) (ok.actions x.1).pre, rw (look x.1, action_eff) (ok.actions x.1).eff))
    {most = maxTaskValues} (bytes "action ") t.goal (omega arith) (omega (arith, limits.variables)) limits.sizes (omega arith) (omega (arith, limits.actions)) ok.goal list t.init (omega arith) ok.init l.then

pub probe_failure_most : (f list : List ℕ) → Bytes f → {text : List ℕ} → probe_failure f list ≡ accepted text → length text ≤ most_failure
unfolding probe_failure at_most
probe_failure_most f list b h =
    let r = through (read_probe f) h in
    let l = through (at_most maxProbeList list) r.then in
    let p = r.got in
    let ok = probe_wf f b r.first in
    let few = leb-true (length list) maxProbeList (checked (leb (length list) maxProbeList) 8 maxProbeList l.first) in
    failure_most p.sizes (length p.steps) (step_pre p.steps) (step_eff p.steps)
    (λ a known. let x = at_some p.steps a known in let w = all_at (WfStep p.sizes) ok.steps x.1 in (rw (look x.1, step_pre) w.pre, rw (look x.1, step_eff) w.eff))
    {most = max_values} (bytes "step ") p.goal (omega arith) ok.variables ok.sizes (omega arith) (omega (arith, ok.step_count)) ok.goal list p.init (omega arith) ok.init l.then
