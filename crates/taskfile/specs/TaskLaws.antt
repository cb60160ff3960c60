-- Laws of tasks: a plan is what a run says it is, states stay inside the domains, and what one action of an accepted file costs at most.
use Rattle.std.specs.Prelude.{◌≡◌, refl, ◌↔◌, ℕ, ◌<◌, Bool, true, false, List, length, Option, None, Some, slice_get}
use Rattle.std.proofs.Common.{sym, ◌∙◌}
use Rattle.facts.specs.Read.{accepted}
use Rattle.facts.specs.Lists.{At}
use Rattle.facts.specs.ListLaws.{look, found, at_length}
use Rattle.facts.specs.Partial.{holds, apply}
use Rattle.facts.specs.PartialLaws.{apply_inside}
use Rattle.facts.specs.State.{Inside}
use Rattle.facts.specs.Run.{Move, next, blocked, attempt}
use Rattle.facts.specs.RunLaws.{attempt_next, attempt_blocked, not_blocked, plan_answers}
use Rattle.taskfile.specs.Task.{Action, Task, walk, perform, action_move, action_passes, task_sum, Plan, WfAction}

-- ---- plans

pub move_at_lem : (actions : List Action) {a : ℕ} {x : Action} (s : List ℕ) → At actions a x → action_move actions a s ≡ perform x s
unfolding action_move
move_at_lem actions s h = rw (look h, action_move)

pub passes_at_lem : (actions : List Action) {a : ℕ} {x : Action} (s : List ℕ) → At actions a x → action_passes actions a s ≡ attempt x.pre x.eff (walk x s).passed s
unfolding action_passes
passes_at_lem actions s h = rw (look h, action_passes)

-- what moves is one of the actions
pub move_known : (actions : List Action) (a : ℕ) (s e : List ℕ) (c : ℕ) → action_move actions a s ≡ next e c → a < length actions
unfolding action_move
move_known actions a s e c h = go (slice_get actions a) refl h
  where
    go : (o : Option Action) → slice_get actions a ≡ o → elim o as (λ o. Move) [ None ↦ blocked | Some x ↦ perform x s ] ≡ next e c → a < length actions
    go None q h = absurd (not_blocked h)
    go (Some x) q h = at_length (found actions a q)

-- a list of any length is a plan with the sum c exactly if its run answers c
pub task_plan : (t : Task) (list : List ℕ) (c : ℕ) → Plan t list c ↔ (task_sum t list ≡ accepted c)
unfolding task_sum
task_plan t list c = plan_answers (length t.actions) (action_move t.actions) t.goal (move_known t.actions) list t.init c

-- ---- an action x of a task with these domain sizes, in a state s inside them

module _ {sizes : List ℕ} {x : Action} (wf : WfAction sizes x) (s : List ℕ) (inside : Inside sizes s) where
  -- what it leads to is inside the domains too, whatever it costs
  pub attempt_inside : (paid : ℕ) {e : List ℕ} {c : ℕ} → attempt x.pre x.eff paid s ≡ next e c → Inside sizes e
  attempt_inside paid {e} {c} h = go (holds x.pre s) refl
    where
      go : (b : Bool) → holds x.pre s ≡ b → Inside sizes e
      go true g = let same : apply x.eff s ≡ e = cc (attempt_next x.pre x.eff paid s g) in rw (← same) (apply_inside x.eff sizes s wf.eff.values inside)
      go false g = absurd (not_blocked (sym (attempt_blocked x.pre x.eff paid s g) ∙ h))
