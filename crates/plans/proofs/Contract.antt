-- The list that comes from a source plan, contracted, is that plan.
use Rattle.std.specs.Prelude.{◌≡◌, refl, ℕ, ◌+◌, ◌<◌, List, [], ◌∷◌, ◌++◌, get_or}
use Rattle.std.proofs.Common.{sym, ap, ◌∙◌, subst, arith}
use Rattle.facts.specs.ListLaws.{look, at_length}
use Rattle.facts.specs.Partial.{apply}
use Rattle.facts.specs.Run.{Reaches, steps}
use Rattle.taskfile.specs.Task.{Action, Task, edge_at, action_move, Plan, WfTask}
use Rattle.compilation.specs.Compile.{edge_count, step_count}
use Rattle.plans.specs.Carry.{first_step_of, expand_from, expand, contract_of, contract}
use Rattle.plans.specs.ListLaws.{total_take}
use Rattle.plans.specs.RunLaws.{action_moved}
use Rattle.plans.specs.ViewLaws.{edge_number, end_number}
use Rattle.compilation.specs.AskLaws.{State, Scene, next_state}
use Rattle.plans.specs.MoveLaws.{value_edge}
use Rattle.plans.specs.Forward.{steps_left, node_steps_lem, last_steps, path_induction}
use Rattle.plans.specs.Contract.{started, not_started, contract_other, contract_start}

-- ---- one action, then the rest

module _ {t : Task} {s : List ℕ} {a : ℕ} {x : Action} (o : Scene t s a x) (list : List ℕ) where
  skip_one : (r : ℕ) (rest : List ℕ) → first_step_of t.actions a < r → r < first_step_of t.actions a + step_count x → contract_of t.actions (r ∷ rest) ≡ contract_of t.actions rest
  skip_one r rest l u = contract_other t.actions r rest (not_started 0 0 r o.action (omega arith) (omega arith))

  skip_path : contract_of t.actions (steps_left t s a x 1 ++ list) ≡ contract_of t.actions list
  skip_path =
      path_induction o (λ at. contract_of t.actions (steps_left t s a x at ++ list) ≡ contract_of t.actions list)
      (rw (last_steps o) (skip_one (end_number t.actions a x) list (omega arith) (omega arith)))
      (λ j nd h on.
      rw (node_steps_lem o h)
      (skip_one (edge_number t.actions a x j (get_or s nd.var 0)) (steps_left t s a x (edge_at nd s).target ++ list) (omega arith) (omega (arith, total_take edge_count h, at_length (value_edge o h))) ∙ on))

  contract_action : contract_of t.actions (first_step_of t.actions a ∷ (steps_left t s a x 1 ++ list)) ≡ a ∷ contract_of t.actions list
  contract_action =
      contract_start t.actions (first_step_of t.actions a) (steps_left t s a x 1 ++ list) (started 0 0 (first_step_of t.actions a) a o.action (omega arith) (omega arith))
      ∙ ap (λ (z : List ℕ). a ∷ z) skip_path

-- ---- whole plans

contract_from : (t : Task) (list s : List ℕ) (sum c : ℕ) → State t s → Reaches (action_move t.actions) t.goal sum list s c → contract_of t.actions (expand_from t.actions list s) ≡ list
contract_from t [] s sum c v p = refl
contract_from t (a ∷ list) s sum c v (steps {paid = paid} m r) =
    let w = action_moved t.actions a s m in
    let o : Scene t s a w.x = record { state = v; action = w.element } in
    let on = subst (λ (z : List ℕ). Reaches (action_move t.actions) t.goal (sum + paid) list z c) (sym w.applied.state) r in
    rw (look w.element, expand_from)
    (contract_action o (expand_from t.actions list (apply w.x.eff s)) ∙ ap (λ (z : List ℕ). a ∷ z) (contract_from t list (apply w.x.eff s) (sum + paid) c (next_state o) on))

-- the list that comes from a source plan, contracted, is that plan
pub contract_expand : (t : Task) → WfTask t → (list : List ℕ) (c : ℕ) → Plan t list c → contract t (expand t list) ≡ list
unfolding contract expand
contract_expand t wf list c p = contract_from t list t.init 0 c (record { wf = wf; inside = wf.init }) p
