-- Laws of estimates of task files: the ways in which the operation can go, and the estimate in place.
use Rattle.std.specs.Prelude.{◌≡◌, ℕ, ◌+◌, ◌*◌, List, map, take, drop}
use Rattle.std.proofs.Common.{sym, ap, ap₂, ◌∙◌}
use Rattle.facts.specs.Read.{accepted}
use Rattle.facts.specs.Partial.{Partial, partial_at}
use Rattle.facts.specs.State.{check_state}
use Rattle.facts.specs.StateLaws.{state_inside}
use Rattle.estimate.specs.Number.{Number}
use Rattle.estimate.specs.Additive.{additive}
use Rattle.estimate.specs.AdditiveLaws.{estimate_answers}
use Rattle.taskfile.specs.Task.{Action, Task}
use Rattle.taskfile.specs.Blank.{file_of}
use Rattle.taskfile.specs.Index.{Ready}
use Rattle.taskfile.proofs.TaskReadLaws.{task_wf}
use Rattle.taskfile.specs.AnswerLaws.{there}
use Rattle.taskfile.proofs.AnswerLaws.{sizes_there}
use Rattle.taskfile.specs.PartsInPlaceLaws.{actions_in_place}
use Rattle.relaxation.specs.Estimate.{action_achiever, estimate}
use Rattle.relaxation.specs.EstimatePass.{least_cost_by_pass}
use Rattle.relaxation.proofs.EstimateLaws.{estimate_by_pass_lem}
use Rattle.relaxation.specs.EstimateInPlace.{achievers_in}
use Rattle.relaxation.specs.EstimateTask.{estimate_task}
use Rattle.relaxation.specs.EstimateTaskLaws.{reads, goal_is, state_is}

module _ (f : List ℕ) {n count : ℕ} {row : List ℕ} (ready : Ready f n count row) where
  abbrev t : Task
  t = (there f ready).task

  -- domain sizes and goal as code finds them
  module _ {k : ℕ} (e : k ≡ n) {goal : ℕ} (q : goal ≡ 1 + 2 * n) where
    abbrev sizes : List ℕ
    sizes = take k (drop 1 f)

    module _ (s : List ℕ) where
      -- the estimate in place is that of the task
      pub answered : {r : Number} {u : Unit {0}} → check_state sizes s ≡ accepted u
          → r ≡ additive sizes (achievers_in f sizes row 0 count) (partial_at f goal) s → accepted r ≡ estimate_task (file_of f) s
      answered c h =
          ap accepted
          (h
          ∙ ap (λ (ds : List ℕ). additive ds (achievers_in f ds row 0 count) (partial_at f goal) s) (sizes_there f ready e)
          ∙ ap₂ (λ (xs : List Action) (p : Partial). additive t.sizes (map (action_achiever least_cost_by_pass t.sizes) xs) p s) (actions_in_place f ready) (goal_is f ready e q)
          ∙ sym (estimate_by_pass_lem (task_wf _ (reads f ready)) s (state_inside t.sizes s (state_is f ready e q s ∙ c))))
          ∙ sym (estimate_answers (λ t. t.sizes) estimate s (reads f ready) (state_is f ready e q s ∙ c))
