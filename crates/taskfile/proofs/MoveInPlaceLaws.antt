-- Laws of moves in place: what an action does by its bytes, and that a run by the offsets of an accepted file is one of the actions that were read.
use Rattle.std.specs.Prelude.{◌≡◌, ℕ, ◌<◌, length}
use Rattle.std.proofs.Common.{sym, ap, ◌∙◌}
use mathlib.Core.List.{List, []}
use Rattle.std.proofs.Math.ListN.{get_or}
use Rattle.facts.specs.Read.{accepted}
use Rattle.facts.specs.Lists.{At}
use Rattle.facts.specs.Partial.{partial_at}
use Rattle.facts.specs.State.{Inside}
use Rattle.facts.specs.Run.{Move, next, attempt, run_from}
use Rattle.facts.specs.RunLaws.{run_same}
use Rattle.taskfile.specs.Task.{Action, Task, Walk, walk, action_move, action_passes, task_sum, task_passed}
use Rattle.taskfile.specs.TaskFile.{read_task}
use Rattle.taskfile.specs.Blank.{file_of}
use Rattle.taskfile.specs.InPlace.{Located}
use Rattle.taskfile.proofs.TaskReadLaws.{task_wf}
use Rattle.taskfile.specs.TaskLaws.{move_at_lem, passes_at_lem, attempt_inside}
use Rattle.taskfile.specs.WalkInPlace.{move_by, move_at, passes_at}
use Rattle.taskfile.specs.MoveInPlaceLaws.{at_action, move_in_place, move_same}

-- ---- an accepted file

module _ (f : List ℕ) {t : Task} (r : read_task (file_of f) ≡ accepted t) {row : List ℕ} (loc : Located f row) {count : ℕ} (all : count ≡ length t.actions) where
  abbrev nothing : Action
  nothing = record { pre = record { map = 0; values = [] }; eff = record { map = 0; values = [] }; incoming = 0; nodes = [] }

  -- by a measure of walks, where `move` is by that measure what the actions do that were read
  module _ (measure : Walk → ℕ) (move : ℕ → List ℕ → Move) (does : (a : ℕ) (x : Action) (s : List ℕ) → At t.actions a x → move a s ≡ attempt x.pre x.eff (measure (walk x s)) s) where
    -- and lead to one
    pub move_inside : (a : ℕ) (s e : List ℕ) (c : ℕ) → a < count → Inside t.sizes s → move_by measure f row a s ≡ next e c → Inside t.sizes e
    move_inside a s e c l inside h = attempt_inside ((task_wf _ r).actions (at_action f r loc all a l)) s inside (measure (walk (get_or t.actions a nothing) s)) (sym (move_in_place f r loc all measure move does a s l inside) ∙ h)

    -- so the runs agree
    run_in_place : (goal : ℕ) (list init : List ℕ) → init ≡ t.init → partial_at f goal ≡ t.goal
        → run_from (count) (move_by measure f row) (partial_at f goal) 0 0 list init ≡ run_from (length t.actions) move t.goal 0 0 list t.init
    run_in_place goal list init i g =
        rw (i, g) (run_same (count) (move_by measure f row) move t.goal (Inside t.sizes) (move_same f r loc all measure move does) move_inside list t.init 0 0 (task_wf _ r).init)
        ∙ ap (λ (n : ℕ). run_from n move t.goal 0 0 list t.init) all

  -- a run by the offsets is one of the actions that were read, in its sum and in the nodes passed
  module _ (goal : ℕ) (list init : List ℕ) (i : init ≡ t.init) (g : partial_at f goal ≡ t.goal) where
    pub sum_in_place : run_from (count) (move_at f row) (partial_at f goal) 0 0 list init ≡ task_sum t list
    unfolding task_sum
    sum_in_place = run_in_place (λ (w : Walk). w.cost) (action_move t.actions) (λ a x s h. move_at_lem t.actions s h) goal list init i g

    pub passed_in_place : run_from (count) (passes_at f row) (partial_at f goal) 0 0 list init ≡ task_passed t list
    unfolding task_passed
    passed_in_place = run_in_place (λ (w : Walk). w.passed) (action_passes t.actions) (λ a x s h. passes_at_lem t.actions s h) goal list init i g
