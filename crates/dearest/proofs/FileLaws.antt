-- Laws of the operation on files: the ways in which it goes, and what an answer says of every file and action number.
use Rattle.std.specs.Prelude.{◌≡◌, ℕ, ◌≤◌, ◌<◌, length, get_or, drop}
use Rattle.std.proofs.Math.Path.{sym}
use Rattle.std.proofs.Common.{ap, ap₂, ◌∙◌, arith}
use mathlib.Core.List.{List}
use Rattle.facts.specs.Read.{accepted}
use Rattle.facts.specs.ReadLaws.{through, carried}
use Rattle.facts.specs.Bytes.{Bytes}
use Rattle.facts.specs.PartialLaws.{inside_length}
use Rattle.taskfile.specs.Task.{Task, max_cost}
use Rattle.taskfile.specs.TaskFile.{read_task, action_of}
use Rattle.taskfile.proofs.TaskReadLaws.{task_wf, task_limits}
use Rattle.taskfile.proofs.TaskLaws.{accepted_cost}
use Rattle.taskfile.specs.Blank.{file_of}
use Rattle.taskfile.specs.Row.{own_from}
use Rattle.taskfile.specs.Index.{Ready}
use Rattle.taskfile.specs.PartsInPlace.{action_in}
use Rattle.taskfile.specs.PartsInPlaceLaws.{at_some, action_here}
use Rattle.taskfile.specs.AnswerLaws.{there, action_there, action_found}
use Rattle.dearest.specs.Dearest.{dearest_of, Dearest}
use Rattle.dearest.specs.ByWalk.{greatest_by_pass, dearest_by_walk}
use Rattle.dearest.specs.DearestLaws.{some_values, greatest_by_pass_lem, dearest_by_walk_lem}
use Rattle.dearest.proofs.DearestLaws.{dearest_is}
use Rattle.dearest.specs.FileLaws.{Given}

module _ (f : List ℕ) (a : ℕ) where
  pub dearest_given : {state : List ℕ} {most : ℕ} → dearest_of f a ≡ accepted (state, most) → Given f a state most
  unfolding dearest_of
  dearest_given {state} {most} h =
      let r = through (read_task f) h in
      let o = through (action_of r.got.actions a) r.then in
      let t = r.got in
      let x = o.got in
      let found = action_found t.actions a o.first in
      let is = dearest_is ((task_wf f r.first).actions found) (some_values t.sizes (task_limits f r.first).sizes) in
      let given : Dearest t.sizes x state most = carried o.then (Dearest t.sizes x) is in
      record { task = t; reads = r.first; action = x; there = found; is = given; wide = sym (inside_length t.sizes state given.inside) }

  -- at most 1,638,375
  pub dearest_most : Bytes f → {state : List ℕ} {most : ℕ} → dearest_of f a ≡ accepted (state, most) → most ≤ max_cost
  dearest_most bytes {state} h =
      let g = dearest_given h in
      omega (arith, g.is.costs, accepted_cost f g.reads g.there state g.is.inside bytes)

-- ---- an accepted file, by its index

module _ (f : List ℕ) {n count : ℕ} {row : List ℕ} (ready : Ready f n count row) (a : ℕ) where
  abbrev t : Task
  t = (there f ready).task

  -- a state has a value for each variable
  pub dearest_wide : {state : List ℕ} {most : ℕ} → dearest_of (file_of f) a ≡ accepted (state, most) → length state ≡ n
  dearest_wide h =
      let g = dearest_given (file_of f) a h in
      let same : g.task ≡ t = let e = sym g.reads ∙ (there f ready).reads in cc in
      g.wide ∙ ap (λ (t : Task). length t.sizes) same ∙ (there f ready).variables

  -- the action that is there, in place
  pub dearest_there : a < count → {at : ℕ} {sizes offsets : List ℕ} → at ≡ get_or row a 0 → sizes ≡ t.sizes → offsets ≡ drop (own_from row a) row
      → dearest_of (file_of f) a ≡ accepted (dearest_by_walk sizes (action_in f sizes at offsets), greatest_by_pass sizes (action_in f sizes at offsets))
  unfolding dearest_of
  dearest_there l p s o =
      let found = at_some t.actions a (omega (arith, (there f ready).actions)) in
      let x = found.0 in
      let h = found.1 in
      let reads = (there f ready).reads in
      let wf = (task_wf _ reads).actions h in
      let some_value = some_values t.sizes (task_limits _ reads).sizes in
      rw (p, s, o, action_here f (ready.located.lies t reads a x h), reads, action_there h)
      (ap₂ (λ (state : List ℕ) (most : ℕ). accepted (state, most)) (dearest_by_walk_lem wf some_value) (greatest_by_pass_lem wf some_value))
