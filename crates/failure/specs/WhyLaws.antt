-- What the text is worth: where a list is refused by 9, the run comes to its end at that entry, whose precondition does not hold there; by 10, at the end, where the goal does not hold; and of a plan nothing is said.
use Rattle.std.specs.Prelude.{ℕ, zero, suc, ◌+◌, ◌%◌, ◌<◌, ◌≡◌, Bool, true, false, ◌&&◌, ltb, length, get_or, None, Some, slice_get}
use Rattle.std.proofs.Math.Path.{refl}
use Rattle.std.proofs.Common.{sym, ap, subst, ◌∙◌, arith}
use mathlib.Core.List.{List, [], ◌∷◌, ◌++◌}
use borrow.Author.Tests.{eq-eqb, ltb-true}
use Rattle.facts.specs.Read.{Read, accepted, refused, check, ◌>>=◌}
use Rattle.facts.specs.ListLaws.{look}
use Rattle.facts.specs.Partial.{Partial, agrees, above, holds, apply}
use Rattle.facts.specs.State.{Inside}
use Rattle.facts.specs.WellFormed.{Fits, Values, WfPartial}
use Rattle.facts.specs.Run.{Move, next, blocked, attempt, moved, run_from}
use Rattle.taskfile.specs.Task.{Task, cost, action_move, task_sum}
use Rattle.taskfile.specs.PartsInPlaceLaws.{at_some}
use Rattle.probefile.specs.Probe.{Probe, step_move, probe_sum}
use Rattle.words.specs.Words.{bits_text}
use Rattle.failure.specs.Failure.{failed_text, failures_text, Halt, stopped, ended, onward, halt_from, action_pre, action_eff, step_pre, step_eff}
use Rattle.failure.specs.FailureLaws.{unlike_other}

-- what a run of a list answers is what the end that it comes to says
pub data Ends (goal : Partial) : Read ℕ → Read Halt → Type 0 where
  -- 9 at an entry that does not apply
  blocks : {i a : ℕ} {p : Partial} {s : List ℕ} → holds p s ≡ false → Ends goal (refused 9 i) (accepted (stopped i a p s))
  -- 10 at the end, where the goal does not hold
  unmet : {i : ℕ} {s : List ℕ} → holds goal s ≡ false → Ends goal (refused 10 i) (accepted (ended s))
  -- a sum, where it does
  meets : {sum : ℕ} {s : List ℕ} → holds goal s ≡ true → Ends goal (accepted sum) (accepted (ended s))
  -- 11 at the number of no action or step
  misses : {i : ℕ} → Ends goal (refused 11 i) (refused 11 i)

-- Actions or steps with these preconditions and effects, whatever they cost.
module _ (count : ℕ) (move : ℕ → List ℕ → Move) (pre eff : ℕ → Partial) (cost : ℕ → List ℕ → ℕ) (goal : Partial) (does : (a : ℕ) (s : List ℕ) → a < count → move a s ≡ attempt (pre a) (eff a) (cost a s) s) where
  goal_ends : (t : Bool) (i sum : ℕ) (s : List ℕ) → holds goal s ≡ t → Ends goal (◌>>=◌ (check t 10 i) (λ u. accepted sum)) (accepted (ended s))
  goal_ends true i sum s h = meets h
  goal_ends false i sum s h = unmet h

  entry_ends : (t : Bool) (i a : ℕ) (s : List ℕ) (run : List ℕ × ℕ → Read ℕ) (halt : Unit {0} → Read Halt) → holds (pre a) s ≡ t → Ends goal (run (apply (eff a) s, cost a s)) (halt tt)
      → Ends goal (◌>>=◌ (moved (elim t as (λ t. Move) [ true ↦ next (apply (eff a) s) (cost a s) | false ↦ blocked ]) i) run) (onward t (stopped i a (pre a) s) halt)
  entry_ends true i a s run halt h e = e
  entry_ends false i a s run halt h e = blocks h

  known_ends : (t : Bool) (i : ℕ) (run : Read ℕ) (halt : Read Halt) → (t ≡ true → Ends goal run halt) → Ends goal (◌>>=◌ (check t 11 i) (λ u. run)) (◌>>=◌ (check t 11 i) (λ u. halt))
  known_ends true i run halt e = e refl
  known_ends false i run halt e = misses

  pub run_ends : (list s : List ℕ) (i sum : ℕ) → Ends goal (run_from count move goal i sum list s) (halt_from count pre eff i list s)
  unfolding run_from halt_from
  run_ends [] s i sum = goal_ends (holds goal s) i sum s refl
  run_ends (a ∷ list) s i sum =
      known_ends (ltb a count) i _ _ (λ t.
      let l = ltb-true a count t in
      rw (does a s l) (entry_ends (holds (pre a) s) i a s (λ p. run_from count move goal (suc i) (sum + p.1) list p.0) (λ u. halt_from count pre eff (suc i) list (apply (eff a) s)) refl (run_ends list (apply (eff a) s) (suc i) (sum + cost a s))))

-- ---- tasks and probe files

-- Each list on a task, and on a probe file.
pub task_ends : (t : Task) (list : List ℕ) → Ends t.goal (task_sum t list) (halt_from (length t.actions) (action_pre t.actions) (action_eff t.actions) 0 list t.init)
unfolding task_sum action_move
task_ends t list =
    run_ends (length t.actions) (action_move t.actions) (action_pre t.actions) (action_eff t.actions) (λ a s. elim (slice_get t.actions a) [ None ↦ 0 | Some x ↦ cost x s ]) t.goal
    (λ a s l. let x = at_some t.actions a l in rw (look x.1, action_move, action_pre, action_eff)) list t.init 0 0

pub probe_ends : (p : Probe) (list : List ℕ) → Ends p.goal (probe_sum p list) (halt_from (length p.steps) (step_pre p.steps) (step_eff p.steps) 0 list p.init)
unfolding probe_sum step_move
probe_ends p list =
    run_ends (length p.steps) (step_move p.steps) (step_pre p.steps) (step_eff p.steps) (λ r s. elim (slice_get p.steps r) [ None ↦ 0 | Some st ↦ st.cost ]) p.goal
    (λ r s l. let x = at_some p.steps r l in rw (look x.1, step_move, step_pre, step_eff)) list p.init 0 0

-- ---- some fact is named

not_false : true ≡ false → ⊥
not_false e = let z : ◌≡◌ {A = ℕ} 0 1 = cc in omega arith

not_empty : {x : ℕ} {xs : List ℕ} → x ∷ xs ≡ [] → ⊥
not_empty e = let z : ◌≡◌ {A = ℕ} 0 1 = cc in omega arith

both_empty : (xs ys : List ℕ) → xs ++ ys ≡ [] → (xs ≡ []) × (ys ≡ [])
both_empty [] ys e = (refl, e)
both_empty (x ∷ xs) ys e = absurd (not_empty e)

-- Of a variable whose fact does not hold.
fact_named : (x v b d : ℕ) (values : List ℕ) → Fits b values d → agrees b values x ≡ false → failed_text x v b values ≡ [] → ⊥
fact_named x v zero d values h g e = absurd (not_false g)
fact_named x v (suc b) d [] h g e = absurd h
fact_named x v (suc b) d (y ∷ values) h g e = absurd (not_empty ((unlike_other v y x (λ s. not_false (sym (eq-eqb y x s) ∙ g))) ∙ e))

-- Of the variables from v on, where `rest` is the state from there on.
named : (s rest sizes : List ℕ) (v : ℕ) (p : Partial) → ((k q : ℕ) → q ≡ v + k → get_or s q 0 ≡ get_or rest k 0) → Inside sizes rest → Values p sizes → holds p rest ≡ false
    → bits_text (λ v. failed_text (get_or s v 0) v) (length rest) v p ≡ [] → ⊥
named s [] sizes v p same i h g e = not_false g
named s (x ∷ rest) [] v p same i h g e = absurd i
named s (x ∷ rest) (d ∷ sizes) v p same i h g e =
    let first = failed_text (get_or s v 0) v (p.map % 2) p.values in
    let others = bits_text (λ v. failed_text (get_or s v 0) v) (length rest) (suc v) (above p) in
    let None = both_empty first others e in
    let here : get_or s v 0 ≡ x = same 0 v (omega arith) in
    go (agrees (p.map % 2) p.values x) refl (subst (λ (y : ℕ). failed_text y v (p.map % 2) p.values ≡ []) here None.0) (λ f. named s rest sizes (suc v) (above p) (λ k q m. same (suc k) q (omega arith)) i.1 h.1 f None.1) g
  where
    go : (t : Bool) → agrees (p.map % 2) p.values x ≡ t → failed_text x v (p.map % 2) p.values ≡ [] → (holds (above p) rest ≡ false → ⊥) → (t && holds (above p) rest) ≡ false → ⊥
    go true t e k g = k g
    go false t e k g = fact_named x v (p.map % 2) d p.values h.0 t e

pub failure_named : (sizes s : List ℕ) (p : Partial) → Inside sizes s → WfPartial sizes p → holds p s ≡ false → failures_text p s ≡ [] → ⊥
failure_named sizes s p i w g e = named s s sizes 0 p (λ k q h. let same : q ≡ k = omega arith in ap (λ (j : ℕ). get_or s j 0) same) i w.values g e
