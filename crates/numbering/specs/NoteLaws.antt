-- Laws of what is noted at the numbers of starts.
use Rattle.std.specs.Prelude.{◌≡◌, refl, Bool, true, false, ℕ, zero, suc, ◌+◌, ◌≤◌, ◌<◌, List, [], ◌∷◌, eqb, length, get_or, take, drop, set, replicate, Option, None, Some}
use Rattle.std.proofs.Common.{sym, ap, subst, ◌∙◌, add-one, arith, length-set, drop_of_length-le, length-take-le, drop-cons, get_or-set_same, get_or-set_other, get_or-take, eqb-true}
use Rattle.std.proofs.lemmas.List.{length-replicate}
use Rattle.std.proofs.lemmas.Bool.{eqb-false}
use Rattle.facts.specs.Lists.{total}
use Rattle.taskfile.specs.Task.{Action, Task}
use Rattle.taskfile.specs.Blank.{file_of}
use Rattle.taskfile.specs.Index.{Ready}
use Rattle.taskfile.proofs.TaskReadLaws.{task_wf, task_limits}
use Rattle.taskfile.specs.AnswerLaws.{there as task-there}
use Rattle.compilation.specs.Compile.{step_count}
use Rattle.compilation.specs.StepLaws.{steps_length, steps_most}
use Rattle.taskfile.specs.PartsInPlace.{actions_in}
use Rattle.taskfile.specs.PartsInPlaceLaws.{reads, actions_in_place}
use Rattle.plans.specs.Carry.{first_step_of, started_by}
use Rattle.plans.specs.Contract.{too_low}
use Rattle.numbering.specs.InPlace.{Numbered, Noted, NotedIn, note_from}
use Rattle.probefile.specs.Probe.{max_steps}

-- ---- what is noted

-- 1 and the number of the action, or what stood there before
abbrev note_of : ℕ → Option ℕ → ℕ
note_of before started = elim started [ None ↦ before | Some a ↦ suc a ]

module _ (first k : ℕ) (x : Action) (actions : List Action) (starts action_of_lem : List ℕ) (r : ℕ) where
  -- One action more: its start is noted, and nothing else.
  note_one : (s : ℕ) → s ≡ first → s < length action_of_lem
      → get_or (note_from (suc k) starts (set action_of_lem s (suc k))) r 0 ≡ note_of (get_or (set action_of_lem s (suc k)) r 0) (started_by (first + step_count x) (suc k) actions r)
      → (b : Bool) → eqb r first ≡ b → get_or (note_from (suc k) starts (set action_of_lem s (suc k))) r 0 ≡ note_of (get_or action_of_lem r 0) (started_by first k (x ∷ actions) r)
  note_one s e l on true h =
      let same : r ≡ s = eqb-true r first h ∙ sym e in
      let low : r < first + step_count x = omega arith in
      rw (h, started_by) (on ∙ rw (too_low (first + step_count x) (suc k) actions r low, same) (get_or-set_same action_of_lem s (suc k) 0 l))
  note_one s e l on false h =
      rw (h, started_by) (on ∙ ap (λ (d : ℕ). note_of d (started_by (first + step_count x) (suc k) actions r)) (get_or-set_other action_of_lem s r (suc k) 0 (λ q. eqb-false r first h (q ∙ e))))

-- Where the starts of actions from number k on are noted, each number has the action that it starts, or what stood there before.
note_all : (first k : ℕ) (actions : List Action) (starts action_of_lem : List ℕ) (r : ℕ) → length starts ≡ length actions
    → ((a : ℕ) → a < length actions → get_or starts a 0 ≡ first + first_step_of actions a) → ((a : ℕ) → a < length actions → get_or starts a 0 < length action_of_lem)
    → get_or (note_from k starts action_of_lem) r 0 ≡ note_of (get_or action_of_lem r 0) (started_by first k actions r)
note_all first k [] [] action_of_lem r e n l = refl
note_all first k [] (s ∷ starts) action_of_lem r e n l = absurd (omega arith)
note_all first k (x ∷ actions) [] action_of_lem r e n l = absurd (omega arith)
note_all first k (x ∷ actions) (s ∷ starts) action_of_lem r e n l =
    note_one first k x actions starts action_of_lem r s (omega (arith, n 0 (omega arith))) (l 0 (omega arith))
    (note_all (first + step_count x) (suc k) actions starts (set action_of_lem s (suc k)) r (omega arith) (λ a h. omega (arith, n (suc a) (omega arith))) (λ a h. omega (arith, l (suc a) (omega arith), length-set action_of_lem s (suc k))))
    (eqb r first) refl

-- Zeros, and 0 past the last.
zero_at : (n r : ℕ) → ◌≡◌ {A = ℕ} (get_or (replicate n 0) r 0) 0
zero_at zero r = refl
zero_at (suc n) zero = refl
zero_at (suc n) (suc r) = zero_at n r

-- Over zeros the starts of all actions are noted, and nothing else.
note_starts : (actions : List Action) (starts : List ℕ) {size : ℕ} → length starts ≡ length actions → ((a : ℕ) → a < length actions → get_or starts a 0 ≡ first_step_of actions a)
    → ((a : ℕ) → a < length actions → get_or starts a 0 < size) → Noted actions (note_from 0 starts (replicate size 0))
note_starts actions starts {size} e n l = record {
  notes = λ r.
      note_all 0 0 actions starts (replicate size 0) r e (λ a h. omega (arith, n a h)) (λ a h. omega (arith, l a h, length-replicate {A = ℕ} size 0))
      ∙ ap (λ (d : ℕ). note_of d (started_by 0 0 actions r)) (zero_at size r);
}

-- An action starts before the last step.
first_below : (actions : List Action) (a : ℕ) → a < length actions → first_step_of actions a < total step_count actions
first_below [] a h = absurd (omega arith)
first_below (x ∷ actions) zero h = omega arith
first_below (x ∷ actions) (suc a) h = omega (arith, first_below actions a (omega arith))

-- No more is noted than there are actions: one action more.
most_one : (first k : ℕ) (x : Action) (actions : List Action) (r : ℕ) → note_of 0 (started_by (first + step_count x) (suc k) actions r) ≤ suc k + length actions → (b : Bool) → eqb r first ≡ b
    → note_of 0 (started_by first k (x ∷ actions) r) ≤ k + length (x ∷ actions)
most_one first k x actions r on true h = rw (h, started_by) (omega arith)
most_one first k x actions r on false h = rw (h, started_by) (omega arith)

-- Whatever the actions.
most_from : (first k : ℕ) (actions : List Action) (r : ℕ) → note_of 0 (started_by first k actions r) ≤ k + length actions
most_from first k [] r = omega arith
most_from first k (x ∷ actions) r = most_one first k x actions r (most_from (first + step_count x) (suc k) actions r) (eqb r first) refl

-- At each number.
pub noted_most : {actions : List Action} {action_of_lem : List ℕ} → Noted actions action_of_lem → (r : ℕ) → get_or action_of_lem r 0 ≤ length actions
noted_most {actions} n r = omega (arith, n.notes r, most_from 0 0 actions r)

-- Start number a of a list is noted, and then the rest.
pub note_turn : (first_step action_of_lem : List ℕ) (a : ℕ) → a < length first_step
    → note_from a (drop a first_step) action_of_lem ≡ note_from (a + 1) (drop (a + 1) first_step) (set action_of_lem (get_or first_step a 0) (1 + a))
note_turn first_step action_of_lem a l =
    let one : 1 + a ≡ suc a = omega arith in
    rw (drop-cons first_step a 0 l, one, add-one a)

-- Past the last start nothing is left to note.
pub note_last : (first_step action_of_lem : List ℕ) (a : ℕ) → length first_step ≤ a → note_from a (drop a first_step) action_of_lem ≡ action_of_lem
note_last first_step action_of_lem a l = rw (drop_of_length-le first_step l)

-- ---- the starts of an accepted file, by its index

module _ (f : List ℕ) {variables count : ℕ} {row : List ℕ} (ready : Ready f variables count row) where
  -- its task
  abbrev t : Task
  t = (task-there f ready).task

  module _ {sizes first_step first_edge : List ℕ} (e : sizes ≡ t.sizes) (n : Numbered (actions_in f sizes row 0 count) row first_step first_edge) (long : count ≤ length first_step) where
    -- the number of each action's start
    abbrev starts : List ℕ
    starts = take count first_step

    -- There is one for each action.
    starts_long : length starts ≡ length t.actions
    starts_long = length-take-le count first_step long ∙ sym (task-there f ready).actions

    -- It is as many as the steps of the actions before it.
    start_at : (a : ℕ) → a < length t.actions → get_or starts a 0 ≡ first_step_of t.actions a
    start_at a h =
        let same = ap (λ (ds : List ℕ). actions_in f ds row 0 count) e ∙ actions_in_place f ready in
        get_or-take count first_step a 0 (omega (arith, (task-there f ready).actions)) ∙ (subst (λ (actions : List Action). Numbered actions row first_step first_edge) same n).numbers a (omega arith)

    -- It is one of 576 numbers.
    pub start_below : (a : ℕ) → a < length starts → get_or starts a 0 < max_steps
    start_below a h =
        let few = steps_most t (task_wf _ (reads f ready)) (task_limits _ (reads f ready)) in
        let l : a < length t.actions = omega (arith, starts_long) in
        omega (arith, start_at a l, first_below t.actions a l, steps_length t, few)

    pub step_below : (a : ℕ) → a < count → get_or first_step a 0 < max_steps
    step_below a h = omega (arith, get_or-take count first_step a 0 h, start_below a (omega (arith, length-take-le count first_step long)))

    -- Over zeros they are noted, and nothing else.
    pub note_in : {before now : List ℕ} → before ≡ replicate max_steps 0 → now ≡ note_from 0 starts before → NotedIn (file_of f) now
    note_in {before} {now} z m =
        let all = note_starts t.actions starts {size = max_steps} starts_long start_at (λ a h. start_below a (omega (arith, starts_long))) in
        let table : now ≡ note_from 0 starts (replicate max_steps 0) = m ∙ ap (note_from 0 starts) z in
        record { noted = λ other h. let same : t ≡ other = cc (reads f ready, h) in subst (λ (u : Task). Noted u.actions now) same (rw table all) }
