-- Laws of the operation on files: the ways in which it goes, and what an answer says of every file and action number.
use Rattle.std.specs.Prelude.{◌≡◌, refl, ℕ, ◌≤◌, ◌<◌, length, get_or, drop}
use Rattle.std.proofs.Common.{ap, arith}
use mathlib.Core.List.{List}
use Rattle.facts.specs.Read.{Read, accepted, refused, ◌>>=◌}
use Rattle.facts.specs.ReadLaws.{not_made}
use Rattle.facts.specs.Lists.{At}
use Rattle.facts.specs.ListLaws.{look_none}
use Rattle.taskfile.specs.Task.{Action, Task}
use Rattle.taskfile.specs.TaskFile.{read_task, check_task, action_of}
use Rattle.taskfile.proofs.TaskReadLaws.{task_limits}
use Rattle.taskfile.specs.Blank.{file_of}
use Rattle.taskfile.specs.Row.{own_from}
use Rattle.taskfile.specs.Index.{Ready}
use Rattle.taskfile.proofs.PartsInPlaceLaws.{actions_stood}
use Rattle.taskfile.specs.AnswerLaws.{there}
use Rattle.relaxation.specs.EstimateTaskLaws.{priceable}
use Rattle.dearest.specs.Dearest.{greatest_cost, dearest_state, dearest_of, Dearest}
use Rattle.dearest.specs.InPlace.{Drawn}
use Rattle.dearest.specs.DearestLaws.{some_values}

module _ (f : List ℕ) (a : ℕ) where
  -- the file is refused
  pub dearest_no_file : {n p : ℕ} → check_task f ≡ refused n p → dearest_of f a ≡ refused n p
  unfolding check_task dearest_of
  dearest_no_file h = rw (not_made (λ (t : Task). tt) (read_task f) h)

  -- What an answer says.
  pub record Given (state : List ℕ) (most : ℕ) : Type 0 where
    pub task : Task
    pub reads : read_task f ≡ accepted task
    pub action : Action
    pub there : At task.actions a action
    -- that is: it is a state of the task, costs that, no state costs more, and every smaller one costs less
    pub is : Dearest task.sizes action state most
    -- a value for each variable
    pub wide : length state ≡ length task.sizes

-- ---- an accepted file, by its index

module _ (f : List ℕ) {n count : ℕ} {row : List ℕ} (ready : Ready f n count row) (a : ℕ) where
  abbrev t : Task
  t = (there f ready).task

  -- its nodes stand in the file
  pub drawn_there : a < count → {at : ℕ} {sizes offsets : List ℕ} → at ≡ get_or row a 0 → sizes ≡ t.sizes → offsets ≡ drop (own_from row a) row → Drawn f sizes at offsets
  drawn_there l p s o =
      let stood = actions_stood f ready refl a l in
      rw (p, s, o) (record { wf = (priceable f ready a l).wf; some_value = some_values t.sizes (task_limits _ (there f ready).reads).sizes; few = stood.few; tests = stood.nodes })

  -- no such action
  pub dearest_missing : count ≤ a → dearest_of (file_of f) a ≡ refused 11 0
  unfolding dearest_of action_of
  dearest_missing l =
      let none_such : action_of t.actions a ≡ refused 11 0 = rw (look_none t.actions a (omega (arith, (there f ready).actions)), action_of) in
      rw (there f ready).reads (ap (λ (r : Read Action). ◌>>=◌ r (λ x. accepted (dearest_state t.sizes x, greatest_cost t.sizes x))) none_such)
