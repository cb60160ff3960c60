-- What a trace is worth: where the run of a list on the compilation of its task answers a sum, it is the trace's last; and an entry is marked exactly if the run is refused by 9 there.
use Rattle.std.specs.Prelude.{ℕ, suc, ◌+◌, ◌≡◌, refl, ◌↔◌, Bool, true, false, ltb, length, get_or, Option, Some, slice_get}
use Rattle.std.proofs.Common.{sym, ap, ◌∙◌, arith, ltb-true, ltb-false}
use Rattle.std.proofs.Math.Path.{subst}
use mathlib.Core.List.{List, [], ◌∷◌}
use Rattle.facts.specs.Read.{Read, accepted, refused, check, ◌>>=◌}
use Rattle.facts.specs.ReadLaws.{not_refused}
use Rattle.facts.specs.Lists.{At}
use Rattle.facts.specs.ListLaws.{look, look_none, found, at_length}
use Rattle.facts.specs.Partial.{Partial, holds, apply}
use Rattle.facts.specs.Run.{Move, next, blocked, attempt, moved, run_from}
use Rattle.taskfile.specs.Task.{Task}
use Rattle.taskfile.specs.PartsInPlaceLaws.{at_some}
use Rattle.probefile.specs.Probe.{Step, step_move, probe_sum}
use Rattle.compilation.specs.Compile.{probe_of}
use Rattle.compilation.specs.StepLaws.{map_at}
use Rattle.steps.specs.Steps.{Named, names_of}
use Rattle.steps.specs.CostLaws.{same_costs, same_count}
use Rattle.failure.specs.Failure.{step_pre, step_eff}
use Rattle.trace.specs.Trace.{Entry, went, stuck, entries}
use Rattle.trace.specs.TraceFile.{task_entries}
use Rattle.trace.specs.TraceLaws.{from}

-- what the end of a trace says: the last sum, or the index of the entry that does not apply
pub data Outcome : Type 0 where
  sums : ℕ → Outcome
  stops : ℕ → Outcome

-- of these entries, the first of which has the index i, with the sum before it
abbrev pub outcome : ℕ → ℕ → List Entry → Outcome
outcome i sum [] = sums sum
outcome i sum (went k x pre eff paid s ∷ es) = outcome (suc i) paid es
outcome i sum (stuck k x pre s ∷ es) = stops i

-- what a run answers, and what the trace says
pub data Agrees : Read ℕ → Outcome → Type 0 where
  -- the sum
  met : {sum : ℕ} → Agrees (accepted sum) (sums sum)
  -- 10, the goal, and 11, a number that no step has: the sum up to there
  unmet : {i sum : ℕ} → Agrees (refused 10 i) (sums sum)
  misses : {i sum : ℕ} → Agrees (refused 11 i) (sums sum)
  -- 9 at the entry that does not apply
  blocks : {i : ℕ} → Agrees (refused 9 i) (stops i)

-- Steps with these names, preconditions and effects.
module _ (names : List Named) (move : ℕ → List ℕ → Move) (pre eff : ℕ → Partial) (goal : Partial) (does : (k : ℕ) (s : List ℕ) (x : Named) → slice_get names k ≡ Some x → move k s ≡ attempt (pre k) (eff k) x.cost s) where
  goal_agrees : (t : Bool) (i sum : ℕ) → Agrees (◌>>=◌ (check t 10 i) (λ u. accepted sum)) (sums sum)
  goal_agrees true i sum = met
  goal_agrees false i sum = unmet

  entry_agrees : (t : Bool) (i sum k : ℕ) (x : Named) (s : List ℕ) (run : List ℕ × ℕ → Read ℕ) (es : List Entry) → Agrees (run (apply (eff k) s, x.cost)) (outcome (suc i) (sum + x.cost) es)
      → Agrees (◌>>=◌ (moved (elim t as (λ t. Move) [ true ↦ next (apply (eff k) s) x.cost | false ↦ blocked ]) i) run)
      (outcome i sum (elim t as (λ t. Entry) [ true ↦ went k x (pre k) (eff k) (sum + x.cost) (apply (eff k) s) | false ↦ stuck k x (pre k) s ] ∷ elim t as (λ t. List Entry) [ true ↦ es | false ↦ [] ]))
  entry_agrees true i sum k x s run es a = a
  entry_agrees false i sum k x s run es a = blocks

  known_agrees : (t : Bool) (i : ℕ) (run : Read ℕ) (o : Outcome) → (t ≡ true → Agrees run o) → (t ≡ false → Agrees (refused 11 i) o) → Agrees (◌>>=◌ (check t 11 i) (λ u. run)) o
  known_agrees true i run o a b = a refl
  known_agrees false i run o a b = b refl

  pub run_agrees : (list s : List ℕ) (i sum : ℕ) → Agrees (run_from (length names) move goal i sum list s) (outcome i sum (entries names pre eff sum list s))
  unfolding run_from
  run_agrees [] s i sum = goal_agrees (holds goal s) i sum
  run_agrees (k ∷ list) s i sum =
      known_agrees (ltb k (length names)) i _ _
      (λ t.
      let x = at_some names k (ltb-true k (length names) t) in
      rw (look x.1, does k s x.0 (look x.1), entries)
      (entry_agrees (holds (pre k) s) i sum k x.0 s (λ p. run_from (length names) move goal (suc i) (sum + p.1) list p.0) (entries names pre eff (sum + x.0.cost) list (apply (eff k) s)) (run_agrees list (apply (eff k) s) (suc i) (sum + x.0.cost))))
      (λ t. subst (λ (o : Option Named). Agrees (refused 11 i) (outcome i sum (from names pre eff k sum list s o))) (sym (look_none names k (ltb-false k (length names) t))) misses)

-- ---- on the compilation of a task

-- Each step costs what is said by its name.
pub cost_same : (t : Task) {k : ℕ} {x : Named} {st : Step} → At (names_of t) k x → At (probe_of t).steps k st → st.cost ≡ x.cost
cost_same t {k} h g = sym (map_at (λ (st : Step). st.cost) g) ∙ ap (λ (costs : List ℕ). get_or costs k 0) (sym (same_costs t)) ∙ map_at (λ (x : Named). x.cost) h

-- The run of each list, and its trace.
pub trace_agrees : (t : Task) (list : List ℕ) → Agrees (probe_sum (probe_of t) list) (outcome 0 0 (task_entries t list))
unfolding probe_sum step_move
trace_agrees t list =
    let p = probe_of t in
    rw (← same_count t)
    (run_agrees (names_of t) (step_move p.steps) (step_pre p.steps) (step_eff p.steps) p.goal
    (λ k s x h.
    let named = found (names_of t) k h in
    let st = at_some p.steps k (omega (arith, at_length named, same_count t)) in
    rw (look st.1, step_move, step_pre, step_eff, cost_same t named st.1)) list p.init 0 0)

-- ---- so

sum_told : {r : Read ℕ} {o : Outcome} {c : ℕ} → Agrees r o → r ≡ accepted c → o ≡ sums c
sum_told met h = cc
sum_told unmet h = absurd (not_refused h)
sum_told misses h = absurd (not_refused h)
sum_told blocks h = absurd (not_refused h)

stop_told : {r : Read ℕ} {o : Outcome} (i : ℕ) → Agrees r o → (r ≡ refused 9 i) ↔ (o ≡ stops i)
stop_told i met = (λ h. absurd (not_refused (sym h)), λ h. let z : ◌≡◌ {A = ℕ} 0 1 = cc in absurd (omega arith))
stop_told i unmet = (λ h. let z : ◌≡◌ {A = ℕ} 9 10 = cc in absurd (omega arith), λ h. let z : ◌≡◌ {A = ℕ} 0 1 = cc in absurd (omega arith))
stop_told i misses = (λ h. let z : ◌≡◌ {A = ℕ} 9 11 = cc in absurd (omega arith), λ h. let z : ◌≡◌ {A = ℕ} 0 1 = cc in absurd (omega arith))
stop_told i blocks = (λ h. cc, λ h. cc)

-- The sum of a plan is the trace's last.
pub last_sum : (t : Task) (list : List ℕ) {c : ℕ} → probe_sum (probe_of t) list ≡ accepted c → outcome 0 0 (task_entries t list) ≡ sums c
last_sum t list h = sum_told (trace_agrees t list) h

-- An entry is marked exactly if the run is refused by 9 there.
pub marks_first : (t : Task) (list : List ℕ) (i : ℕ) → (probe_sum (probe_of t) list ≡ refused 9 i) ↔ (outcome 0 0 (task_entries t list) ≡ stops i)
marks_first t list i = stop_told i (trace_agrees t list)
