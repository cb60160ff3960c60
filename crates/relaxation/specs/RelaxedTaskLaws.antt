-- Laws of relaxed costs of task files: the ways in which the check of a relaxed state can go, what an accepted one is, and the relaxed cost of an action
-- in place, with the sets narrowed in a copy.
use Rattle.std.specs.Prelude.{◌≡◌, refl, Bool, true, false, ◌&&◌, ℕ, ◌^◌, ◌≤◌, ◌<◌, List, [], ◌∷◌, ltb, length, get_or, drop}
use Rattle.std.proofs.Common.{sym, ap₂, subst, ◌∙◌, arith, lt-ltb, le-ltb}
use Rattle.std.proofs.Math.Path.{ap}
use Rattle.facts.specs.Read.{accepted, refused}
use Rattle.facts.specs.Lists.{All, At}
use Rattle.facts.specs.ListLaws.{zip_all, zip_length, total_at}
use Rattle.facts.specs.State.{check_values}
use Rattle.facts.specs.StateLaws.{with_width, with_values}
use Rattle.taskfile.specs.Task.{Action, Task, max_variables, max_values, max_nodes, WfAction}
use Rattle.taskfile.specs.TaskFile.{ask_task}
use Rattle.taskfile.specs.Row.{own_from}
use Rattle.taskfile.specs.InPlace.{Lies}
use Rattle.taskfile.specs.Index.{Ready}
use Rattle.taskfile.specs.WalkInPlace.{node_count}
use Rattle.taskfile.specs.PartsInPlace.{action_in}
use Rattle.taskfile.proofs.TaskReadLaws.{task_wf, task_limits}
use Rattle.taskfile.specs.AnswerLaws.{there}
use Rattle.taskfile.proofs.AnswerLaws.{starts}
use Rattle.taskfile.specs.PartsInPlaceLaws.{at_some, action_here}
use Rattle.taskfile.specs.WalkInPlaceLaws.{count_is}
use Rattle.relaxation.specs.Relaxed.{RelaxedInside}
use Rattle.relaxation.specs.RelaxedInPlace.{Relaxable}
use Rattle.relaxation.specs.RelaxedTask.{good_set, check_relaxed, check_meets, relaxed_in, relaxed_task}

-- ---- the test of a set

and_false : (b : Bool) → (b && false) ≡ false
and_false true = refl
and_false false = refl

pub set_empty : (size set : ℕ) → set ≡ 0 → good_set size set ≡ false
set_empty size set e = ap (λ (b : Bool). b && ltb set (2 ^ size)) (le-ltb 0 set (omega arith))

pub set_stray : (size set : ℕ) → 2 ^ size ≤ set → good_set size set ≡ false
set_stray size set h = ap (◌&&◌ (ltb 0 set)) (le-ltb set (2 ^ size) h) ∙ and_false (ltb 0 set)

pub set_good : (size set : ℕ) → (set ≡ 0 → ⊥) → set < 2 ^ size → good_set size set ≡ true
set_good size set some h = ap₂ ◌&&◌ (lt-ltb 0 set (omega (arith, some))) (lt-ltb set (2 ^ size) h)

-- ---- the check

module _ (sizes sets : List ℕ) where
  pub relaxed_width : (length sets ≡ length sizes → ⊥) → check_relaxed sizes sets ≡ refused 12 0
  unfolding check_relaxed
  relaxed_width n = with_width good_set sizes sets n

  pub relaxed_values : length sets ≡ length sizes → check_relaxed sizes sets ≡ check_values good_set 0 sizes sets
  unfolding check_relaxed
  relaxed_values e = with_values good_set sizes sets e

-- ---- the relaxed cost of action number a, in place

pub small_sizes : (sizes : List ℕ) → All (λ d. (2 ≤ d) × (d ≤ max_values)) sizes → All (λ d. d ≤ max_values) sizes
small_sizes [] h = tt
small_sizes (d ∷ sizes) h = (h.0.1, small_sizes sizes h.1)

module _ (f : List ℕ) {n count : ℕ} {row : List ℕ} (ready : Ready f n count row) (a : ℕ) where
  abbrev t : Task
  t = (there f ready).task

  -- where it starts, and where its own nodes begin
  abbrev start : ℕ
  start = get_or row a 0

  abbrev own : List ℕ
  own = drop (own_from row a) row

  small : All (λ d. d ≤ max_values) t.sizes
  small = small_sizes t.sizes (task_limits _ (there f ready).reads).sizes

  module _ {x : Action} (h : At t.actions a x) where
    lies : Lies f t.sizes x start (own_from row a) row
    lies = ready.located.lies t (there f ready).reads a x h

    wf : WfAction t.sizes x
    wf = (task_wf _ (there f ready).reads).actions h

    few : node_count f start ≤ max_nodes
    few = omega (arith, count_is f lies, total_at (λ (x : Action). length x.nodes) h, (task_limits _ (there f ready).reads).nodes)

  module _ {at : ℕ} {sizes offsets sets : List ℕ} (p : at ≡ start) (s : sizes ≡ t.sizes) (o : offsets ≡ own) (inside : RelaxedInside sizes sets) where
    -- it has a relaxed cost
    pub relaxable : a < count → Relaxable f sizes at offsets sets
    relaxable l =
        let found = at_some t.actions a (omega (arith, (there f ready).actions)) in
        let h = found.1 in
        rw (p, o)
        (subst (λ (ds : List ℕ). RelaxedInside ds sets → Relaxable f ds start own sets) (sym s)
        (λ fits. record { wf = subst (WfAction t.sizes) (sym (action_here f (lies h))) (wf h); small = small; few = few h; inside = fits })
        inside)

    -- and it is the one that is there
    pub action_in_place : {x : Action} → At t.actions a x → action_in f sizes at offsets ≡ x
    action_in_place {x} h = rw (p, s, o) (action_here f (lies h))

-- ---- the ways in which the operation can go

module _ (f : List ℕ) (a : ℕ) (sets : List ℕ) where
  -- the action that is asked about, and then what it costs
  pub asked_refused : {n p : ℕ} → ask_task check_relaxed (λ x sets. x) f a sets ≡ refused n p → relaxed_task f a sets ≡ refused n p
  unfolding relaxed_task
  asked_refused h = rw h

  pub asked_is : {x : Action} → ask_task check_relaxed (λ x sets. x) f a sets ≡ accepted x → relaxed_task f a sets ≡ relaxed_in x sets
  unfolding relaxed_task
  asked_is h = rw h

pub in_lacking : (x : Action) (sets : List ℕ) {n p : ℕ} → check_meets x.pre sets ≡ refused n p → relaxed_in x sets ≡ refused n p
unfolding relaxed_in
in_lacking x sets h = rw h

-- ---- the action at an offset

-- there are at most as many sets as a task has variables
pub sets_few : (f : List ℕ) {n count : ℕ} {row : List ℕ} (ready : Ready f n count row) {sizes sets : List ℕ} → sizes ≡ (there f ready).task.sizes → RelaxedInside sizes sets
    → length sets ≤ max_variables
sets_few f ready e inside = omega (arith, zip_length inside, ap (λ (l : List ℕ). length l) e, (there f ready).variables, (starts f ready).variables)

module _ {f sizes : List ℕ} {at : ℕ} {offsets sets : List ℕ} (r : Relaxable f sizes at offsets sets) where
  -- none of its sets is empty
  pub none_empty : All (λ set. 0 < set) sets
  none_empty = zip_all (λ set. 0 < set) (λ size set h. h.some) r.inside
