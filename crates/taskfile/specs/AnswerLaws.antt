-- Laws of what the operations answer on an accepted file, by its index.
use Rattle.std.specs.Prelude.{◌≡◌, refl, length, get_or, drop, Option, None, Some, slice_get}
use Rattle.std.proofs.Math.Path.{ap}
use Rattle.std.proofs.Common.{arith}
use Prim.Native.Nat.{ℕ, ◌+◌, ◌*◌, ◌≤◌}
use mathlib.Core.List.{List}
use Rattle.std.proofs.Math.ListN.{take}
use Rattle.facts.specs.Read.{Read, accepted, refused, ◌>>=◌, with_value}
use Rattle.facts.specs.ReadLaws.{not_refused, through, made, not_made}
use Rattle.facts.specs.Lists.{At}
use Rattle.facts.specs.ListLaws.{look, look_none, found}
use Rattle.facts.specs.Partial.{partial_at}
use Rattle.facts.specs.State.{check_state}
use Rattle.facts.specs.StateLaws.{state_inside}
use Rattle.taskfile.specs.Task.{Action, Task, walk, both, max_variables, max_actions}
use Rattle.taskfile.specs.TaskFile.{read_task, check_task, action_of, ask_task, run_task}
use Rattle.taskfile.specs.WalkInPlace.{walk_at}
use Rattle.taskfile.specs.WalkInPlaceLaws.{walk_in_place}
use Rattle.taskfile.specs.Row.{own_from}
use Rattle.taskfile.specs.Blank.{file_of}
use Rattle.taskfile.specs.InPlace.{counts, task_at}
use Rattle.taskfile.specs.Index.{Ready}
use Rattle.taskfile.specs.Answers.{tallied_answer, sum_answer, passed_answer}
use Rattle.std.specs.Prelude.{Result, Ok, Err, IsErrAnd}
use Rattle.facts.specs.Refusal.{number, place}
use Rattle.facts.specs.AnswerLaws.{handed}
use Rattle.facts.specs.declared.Refusal.{Refusal}
use Rattle.taskfile.specs.declared.Walked.{Walked}

-- what the file's refusal does to the operations
pub ask_refused : {A : Type 0} (checked : List ℕ → List ℕ → Read (Unit {0})) (answer : Action → List ℕ → A) (f : List ℕ) (a : ℕ) (s : List ℕ) {n p : ℕ} → check_task f ≡ refused n p
    → ask_task checked answer f a s ≡ refused n p
unfolding check_task ask_task
ask_refused checked answer f a s h = rw (not_made (λ (t : Task). tt) (read_task f) h)

pub run_refused : (f list : List ℕ) {n p : ℕ} → check_task f ≡ refused n p → run_task f list ≡ refused n p
unfolding check_task run_task
run_refused f list h = rw (not_made (λ (t : Task). tt) (read_task f) h)

-- what was counted together, from its parts
pub tallied_both : (r : Result Walked Refusal) → tallied_answer r ≡ both (sum_answer r) (passed_answer r)
tallied_both (Ok w) = refl
tallied_both (Err why) = refl

-- the action of a number is the one that is there
pub action_there : {actions : List Action} {a : ℕ} {x : Action} → At actions a x → action_of actions a ≡ accepted x
unfolding action_of
action_there h = rw (look h, action_of)

pub action_found : (actions : List Action) (a : ℕ) {x : Action} → action_of actions a ≡ accepted x → At actions a x
unfolding action_of
action_found actions a {x} h = go (slice_get actions a) refl h
  where
    go : (o : Option Action) → slice_get actions a ≡ o → elim o as (λ o. Read Action) [ None ↦ refused 11 0 | Some y ↦ accepted y ] ≡ accepted x → At actions a x
    go None e h = absurd (not_refused h)
    go (Some y) e h = let is : y ≡ x = cc in rw is at (found actions a e)

module _ (f : List ℕ) {n count : ℕ} {row : List ℕ} (ready : Ready f n count row) where
  -- the task that is there
  pub record There : Type 0 where
    pub task : Task
    pub reads : read_task (file_of f) ≡ accepted task
    pub variables : length task.sizes ≡ n
    pub actions : length task.actions ≡ count

  pub there : There
  unfolding task_at
  there =
      let m = made counts (read_task (file_of f)) ready.counts in
      record { task = m.from; reads = m.answer; variables = ap (λ (p : ℕ × ℕ). p.0) m.value; actions = ap (λ (p : ℕ × ℕ). p.1) m.value }

  abbrev t : Task
  t = there.task

  -- what the file's head says, and where its initial values and its goal stand
  pub record Starts : Type 0 where
    pub variables : n ≤ max_variables
    pub actions : count ≤ max_actions
    pub fits : 1 + 2 * n ≤ length f
    pub sizes : take (n) (drop 1 f) ≡ t.sizes
    pub init : take (n) (drop (1 + n) f) ≡ t.init
    pub goal : partial_at f (1 + 2 * n) ≡ t.goal

  -- ---- what is asked about an action

  action_missing : (a : ℕ) → count ≤ a → action_of t.actions a ≡ refused 11 0
  unfolding action_of
  action_missing a l = rw (look_none t.actions a (omega (arith, there.actions)), action_of)

  module _ {A : Type 0} (checked : List ℕ → List ℕ → Read (Unit {0})) (answer : Action → List ℕ → A) (a : ℕ) (s : List ℕ) where
    pub ask_missing : count ≤ a → ask_task checked answer (file_of f) a s ≡ refused 11 0
    unfolding ask_task
    ask_missing l = rw there.reads (ap (λ (r : Read Action). ◌>>=◌ r (λ x. ◌>>=◌ (checked t.sizes s) (λ u. accepted (answer x s)))) (action_missing a l))

  -- the walk of the action that is there is its walk in place
  pub walk_is : (a : ℕ) (s : List ℕ) {u : Unit {0}} {x : Action} → At t.actions a x → check_state t.sizes s ≡ accepted u → walk_at f (get_or row a 0) (drop (own_from row a) row) s ≡ walk x s
  walk_is a s {x = x} h ok = walk_in_place f (ready.located.lies t there.reads a x h) s (state_inside t.sizes s ok)

-- what is answered about an action of an accepted file
pub record Asked {A : Type 0} (checked : List ℕ → List ℕ → Read (Unit {0})) (answer : Action → List ℕ → A) (f : List ℕ) (a : ℕ) (s : List ℕ) (y : A) : Type 0 where
  pub task : Task
  pub reads : read_task f ≡ accepted task
  pub action : Action
  pub found : At task.actions a action
  pub good : checked task.sizes s ≡ accepted tt
  pub is : answer action s ≡ y

pub ask_accepted : {A : Type 0} (checked : List ℕ → List ℕ → Read (Unit {0})) (answer : Action → List ℕ → A) (f : List ℕ) (a : ℕ) (s : List ℕ) {y : A}
    → ask_task checked answer f a s ≡ accepted y → Asked checked answer f a s y
unfolding ask_task
ask_accepted checked answer f a s h =
    let t = through (read_task f) h in
    let x = through (action_of t.got.actions a) t.then in
    let u = through (checked t.got.sizes s) x.then in
    record { task = t.got; reads = t.first; action = x.got; found = action_found t.got.actions a x.first; good = u.first; is = let e = u.then in cc }

-- a refusal that a `?` hands on
pub tallied_handed : (r : Result Walked Refusal) (why : Refusal) → IsErrAnd r (λ e. e ≡ why) → tallied_answer r ≡ refused (number why) (place why)
tallied_handed r why h = ap (with_value (λ (w : Walked). record { cost = w.cost; passed = w.passed })) (handed r why h)
