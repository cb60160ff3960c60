-- The expansion of a source plan runs on the compiled task, from any state, with the same sum. That it is a plan: proofs/Forward.antt.
use Rattle.std.specs.Prelude.{◌≡◌, refl, ℕ, suc, ◌+◌, true, List, [], ◌∷◌, ◌++◌, length, get_or}
use Rattle.std.proofs.Common.{sym, ap, ◌∙◌, subst₂, arith}
use Rattle.facts.specs.Lists.{At}
use Rattle.facts.specs.ListLaws.{look}
use Rattle.facts.specs.Partial.{holds, apply}
use Rattle.facts.specs.Run.{Reaches, ends, steps}
use Rattle.taskfile.specs.Task.{Node, Action, Task, edge_at, Walk, walk_from, walk, cost, action_move}
use Rattle.taskfile.specs.WalkLaws.{edge_wf, walk_node, walk_terminal, walk_induction}
use Rattle.plans.specs.Carry.{first_step_of, path_steps, action_list, expand_from}
use Rattle.plans.specs.PathLaws.{steps_at, steps_end}
use Rattle.plans.specs.RunLaws.{action_moved, pay}
use Rattle.plans.specs.ViewLaws.{edge_number, end_number}
use Rattle.compilation.specs.AskLaws.{State, Scene, action_wf, next_state}
use Rattle.plans.specs.MoveLaws.{idle, midway, move, probe_goal, goal_idle, start_move, edge_move, end_move}

-- the steps that are left of action a, which is x, at its node `at` or at its terminal
abbrev pub steps_left : Task → List ℕ → ℕ → Action → ℕ → List ℕ
steps_left t s a x at = path_steps (suc (first_step_of t.actions a)) 1 x.nodes at s

-- what is left to pay there
abbrev pub cost_left : List ℕ → Action → ℕ → ℕ
cost_left s x at = (walk_from 1 x.nodes at s).cost

-- from the probe state s, where `sum` was paid, the probe list is a plan with the sum c
abbrev pub Runs : Task → ℕ → List ℕ → List ℕ → ℕ → Type 0
Runs t sum list s c = Reaches (move t) (probe_goal t) sum list s c

pub cost_whole : (x : Action) (s : List ℕ) → cost x s ≡ x.incoming + cost_left s x 1
unfolding walk
cost_whole x s = refl

module _ {t : Task} {s : List ℕ} {a : ℕ} {x : Action} (o : Scene t s a x) where
  pub node_steps_lem : {j : ℕ} {nd : Node} → At x.nodes j nd → steps_left t s a x (suc j) ≡ edge_number t.actions a x j (get_or s nd.var 0) ∷ steps_left t s a x (edge_at nd s).target
  node_steps_lem {j} h = steps_at s (suc (first_step_of t.actions a)) 1 (suc j) h (omega arith) (edge_wf (action_wf o) s o.state.inside h).above

  pub node_cost : {j : ℕ} {nd : Node} → At x.nodes j nd → cost_left s x (suc j) ≡ (edge_at nd s).weight + cost_left s x (edge_at nd s).target
  node_cost h = ap (λ (w : Walk). w.cost) (walk_node (action_wf o) s o.state.inside h)

  pub last_steps : steps_left t s a x (suc (length x.nodes)) ≡ end_number t.actions a x ∷ []
  last_steps = steps_end s (suc (first_step_of t.actions a)) 1 (suc (length x.nodes)) x.nodes (omega arith)

  pub last_cost : cost_left s x (suc (length x.nodes)) ≡ 0
  last_cost = ap (λ (w : Walk). w.cost) (walk_terminal (action_wf o) s o.state.inside)

  pub path_induction : (P : ℕ → Type 0) → P (suc (length x.nodes)) → ((j : ℕ) (nd : Node) → At x.nodes j nd → P (edge_at nd s).target → P (suc j)) → P 1
  path_induction P end node = walk_induction (action_wf o) s o.state.inside P end node

  module _ (list : List ℕ) (c : ℕ) where
    -- what is left of the action runs to its end
    abbrev Follows : ℕ → Type 0
    Follows at = (sum : ℕ) → Runs t (sum + cost_left s x at) list (idle t (apply x.eff s)) c → Runs t sum (steps_left t s a x at ++ list) (midway t s a at) c

    follow_end : Follows (suc (length x.nodes))
    follow_end sum r = rw last_steps (steps {sum = sum} (end_move o) (pay (omega (arith, last_cost)) r))

    follow_edge : (j : ℕ) (nd : Node) → At x.nodes j nd → Follows (edge_at nd s).target → Follows (suc j)
    follow_edge j nd h on sum r = rw (node_steps_lem h) (steps {sum = sum} (edge_move o h) (on (sum + (edge_at nd s).weight) (pay (omega (arith, node_cost h)) r)))

    -- the whole action
    action_runs : (sum : ℕ) → holds x.pre s ≡ true → Runs t (sum + cost x s) list (idle t (apply x.eff s)) c → Runs t sum (action_list (first_step_of t.actions a) x s ++ list) (idle t s) c
    action_runs sum g r = steps {sum = sum} (start_move o g) (path_induction Follows follow_end follow_edge (sum + x.incoming) (pay (omega (arith, cost_whole x s)) r))

pub forward_from : (t : Task) (list s : List ℕ) (sum c : ℕ) → State t s → Reaches (action_move t.actions) t.goal sum list s c → Runs t sum (expand_from t.actions list s) (idle t s) c
forward_from t [] s sum c o (ends g) = ends (goal_idle o ∙ g)
forward_from t (a ∷ list) s sum c o (steps m r) =
    let w = action_moved t.actions a s m in
    let v : Scene t s a w.x = record { state = o; action = w.element } in
    let on = subst₂ (λ (z : List ℕ) (k : ℕ). Reaches (action_move t.actions) t.goal (sum + k) list z c) (sym w.applied.state) (sym w.applied.paid) r in
    rw (look w.element, expand_from)
    (action_runs v (expand_from t.actions list (apply w.x.eff s)) c sum w.applied.applies (forward_from t list (apply w.x.eff s) (sum + cost w.x s) c (next_state v) on))
