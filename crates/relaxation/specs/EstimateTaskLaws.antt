-- Laws of estimates of task files: the ways in which the operation can go, and the estimate in place.
use Rattle.std.specs.Prelude.{◌≡◌, refl, ℕ, ◌+◌, ◌*◌, ◌<◌, List, get_or, take, drop}
use Rattle.std.proofs.Common.{sym, ap, subst, ◌∙◌, arith}
use Rattle.facts.specs.Read.{accepted, refused}
use Rattle.facts.specs.ReadLaws.{not_made}
use Rattle.facts.specs.Partial.{partial_at}
use Rattle.facts.specs.State.{check_state}
use Rattle.facts.specs.WellFormed.{WfPartial}
use Rattle.estimate.specs.AdditiveLaws.{estimate_refused, estimate_turned_down}
use Rattle.estimate.specs.RanksLaws.{roomy}
use Rattle.taskfile.specs.Task.{Task, WfAction}
use Rattle.taskfile.specs.TaskFile.{read_task, check_task}
use Rattle.taskfile.specs.Row.{own_from}
use Rattle.taskfile.specs.Blank.{file_of}
use Rattle.taskfile.specs.Index.{Ready}
use Rattle.taskfile.proofs.TaskReadLaws.{task_wf, task_limits}
use Rattle.taskfile.specs.AnswerLaws.{there}
use Rattle.taskfile.proofs.AnswerLaws.{starts, sizes_there}
use Rattle.taskfile.specs.PartsInPlaceLaws.{at_some, action_here}
use Rattle.taskfile.proofs.PartsInPlaceLaws.{actions_stood}
use Rattle.relaxation.specs.Estimate.{estimate}
use Rattle.relaxation.specs.EstimateInPlace.{Priceable, Estimable}
use Rattle.relaxation.specs.EstimateTask.{estimate_task}

-- the file is refused
pub estimate_not_read : (f s : List ℕ) {n p : ℕ} → check_task f ≡ refused n p → estimate_task f s ≡ refused n p
unfolding check_task
estimate_not_read f s h = estimate_refused (λ t. t.sizes) estimate s (not_made (λ (t : Task). tt) (read_task f) h)

module _ (f : List ℕ) {n count : ℕ} {row : List ℕ} (ready : Ready f n count row) where
  abbrev t : Task
  t = (there f ready).task

  pub reads : read_task (file_of f) ≡ accepted t
  reads = (there f ready).reads

  -- each action stands in the file
  pub priceable : (a : ℕ) → a < count → Priceable f t.sizes (get_or row a 0) (drop (own_from row a) row)
  priceable a h =
      let x = at_some t.actions a (omega (arith, (there f ready).actions)) in
      let lies = ready.located.lies t reads a x.0 x.1 in
      let stood = actions_stood f ready refl a h in
      record { fits = omega (arith, stood.pre.fits); wf = subst (WfAction t.sizes) (sym (action_here f lies)) ((task_wf _ reads).actions x.1); few = stood.few }

  -- domain sizes and goal as code finds them
  module _ {k : ℕ} (e : k ≡ n) {goal : ℕ} (q : goal ≡ 1 + 2 * n) where
    abbrev sizes : List ℕ
    sizes = take k (drop 1 f)

    pub goal_is : partial_at f goal ≡ t.goal
    goal_is = ap (partial_at f) q ∙ (starts f ready).goal

    pub estimable : Estimable f sizes goal count row
    estimable =
        let limits = task_limits _ reads in
        subst (λ (ds : List ℕ). Estimable f ds goal count row) (sym (sizes_there f ready e))
        (record {
          room = roomy t.sizes limits.variables (omega arith) limits.sizes (omega arith) (omega arith);
          goal_is = subst (WfPartial t.sizes) (sym goal_is) (task_wf _ reads).goal;
          long = omega (arith, (starts f ready).actions, ready.long);
          action = priceable;
        })

    module _ (s : List ℕ) where
      -- the check of the state is that of the task's
      pub state_is : check_state t.sizes s ≡ check_state sizes s
      state_is = ap (λ (ds : List ℕ). check_state ds s) (sym (sizes_there f ready e))

      -- the state is turned down
      pub turned_down : {n p : ℕ} → check_state sizes s ≡ refused n p → estimate_task (file_of f) s ≡ refused n p
      turned_down c = estimate_turned_down (λ t. t.sizes) estimate s reads (state_is ∙ c)
