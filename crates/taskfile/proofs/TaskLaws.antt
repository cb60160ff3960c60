-- Laws of tasks: a plan is what a run says it is, states stay inside the domains, and what one action of an accepted file costs at most.
use Rattle.std.specs.Prelude.{◌≡◌, refl, ℕ, ◌≤◌, List, Option, None, Some, slice_get}
use Rattle.std.proofs.Common.{le_trans, arith}
use Rattle.facts.specs.Read.{accepted}
use Rattle.facts.specs.Lists.{At}
use Rattle.facts.specs.ListLaws.{found}
use Rattle.facts.specs.Bytes.{Bytes}
use Rattle.facts.specs.State.{Inside}
use Rattle.facts.specs.Run.{Move, next, blocked}
use Rattle.facts.specs.RunLaws.{attempt_cost, not_blocked}
use Rattle.taskfile.specs.Task.{Action, Task, max_variables, max_cost, walk, cost, perform, action_move}
use Rattle.taskfile.specs.TaskFile.{read_task}
use Rattle.taskfile.specs.WalkLaws.{passed_most}
use Rattle.taskfile.proofs.WalkLaws.{cost_most}
use Rattle.taskfile.specs.TaskReadLaws.{task_weights}
use Rattle.taskfile.proofs.TaskReadLaws.{task_wf, task_limits}
use Rattle.taskfile.specs.TaskLaws.{attempt_inside}

-- ---- an action x of an accepted file f, in a state s inside the domains

module _ (f : List ℕ) {t : Task} (h : read_task f ≡ accepted t) {a : ℕ} {x : Action} (action : At t.actions a x) (s : List ℕ) (inside : Inside t.sizes s) where
  -- it passes at most 24 nodes
  pub accepted_passed : (walk x s).passed ≤ max_variables
  accepted_passed = le_trans (passed_most ((task_wf f h).actions action) s inside) (task_limits f h).variables

  -- and costs at most 1,638,375
  pub accepted_cost : Bytes f → cost x s ≤ max_cost
  accepted_cost bytes = cost_most ((task_wf f h).actions action) s inside (task_weights f h bytes action) (task_limits f h).variables

-- ---- what action number a of an accepted file does in a state inside the domains: it leads to another, and costs at most 1,638,375

pub action_kept : (f : List ℕ) {t : Task} → read_task f ≡ accepted t → Bytes f → (a : ℕ) (s e : List ℕ) (c : ℕ) → Inside t.sizes s → action_move t.actions a s ≡ next e c → Inside t.sizes e × (c ≤ max_cost)
unfolding action_move
action_kept f {t} h bytes a s e c inside m = go (slice_get t.actions a) refl m
  where
    go : (o : Option Action) → slice_get t.actions a ≡ o → elim o as (λ o. Move) [ None ↦ blocked | Some x ↦ perform x s ] ≡ next e c → Inside t.sizes e × (c ≤ max_cost)
    go None q m = absurd (not_blocked m)
    go (Some x) q m =
        let k = found t.actions a q in
        (attempt_inside ((task_wf f h).actions k) s inside (cost x s) m, omega (arith, attempt_cost x.pre x.eff (cost x s) s m, accepted_cost f h k s inside bytes))
