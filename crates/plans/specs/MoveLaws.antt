-- Moves of a compiled task. In an idle state the semaphore and all markers are 0, and only starts apply. Midway in action a the semaphore
-- is 1 and a's marker is the number of the node reached: only that node's edge for the state's value applies, and at the terminal the end.
use Rattle.std.specs.Prelude.{◌≡◌, refl, ℕ, zero, suc, Bool, true, false, ◌&&◌, List, ◌∷◌, ◌++◌, length, get_or, set, replicate}
use Rattle.std.proofs.Common.{sym, ap, ◌∙◌, arith, length-set, get_or-set_same, get_or-set_other, set-set}
use Rattle.std.proofs.Math.Decide.{ℕ_discrete}
use Rattle.std.proofs.lemmas.List.{length-replicate, get_or-replicate}
use Rattle.facts.specs.Lists.{At}
use Rattle.facts.specs.ListLaws.{at_length}
use Rattle.facts.specs.Partial.{Partial, holds, apply}
use Rattle.facts.specs.Run.{Move, next}
use Rattle.facts.specs.RunLaws.{attempt_next}
use Rattle.taskfile.specs.Task.{Edge, Node, Action, Task, edge_at}
use Rattle.taskfile.specs.WalkLaws.{edge_there}
use Rattle.probefile.specs.Probe.{Step, step_move}
use Rattle.probefile.specs.ProbeLaws.{move_at_lem}
use Rattle.compilation.specs.ExtendLaws.{all_zero}
use Rattle.std.proofs.Math.Bool.{and-true}
use Rattle.compilation.specs.Compile.{variables, edge_step, end_step, steps_of, probe_of}
use Rattle.plans.specs.Carry.{first_step_of}
use Rattle.plans.specs.ListLaws.{at_same}
use Rattle.plans.specs.RunLaws.{step_moved}
use Rattle.plans.specs.ViewLaws.{edge_number, end_number, start_at, edge_at_lem, end_at_lem, View, is_start, is_edge, is_end, view}
use Rattle.compilation.specs.AskLaws.{State, goal_holds, Scene, action_wf, start_holds, start_apply, edge_holds, edge_apply, end_holds, end_apply}

-- k zeros
abbrev zeros : ℕ → List ℕ
zeros k = replicate k 0

-- the markers where no action is under way
abbrev quiet : Task → List ℕ
quiet t = zeros (length t.actions)

-- the markers where action a is at a node or at its terminal
abbrev busy : Task → ℕ → ℕ → List ℕ
busy t a at = set (quiet t) a at

-- the probe state of s where no action is under way
abbrev pub idle : Task → List ℕ → List ℕ
idle t s = s ++ (0 ∷ quiet t)

-- the probe state of s where action a is at a node or at its terminal
abbrev pub midway : Task → List ℕ → ℕ → ℕ → List ℕ
midway t s a at = s ++ (1 ∷ busy t a at)

-- what a step of the compiled task does
abbrev pub move : Task → ℕ → List ℕ → Move
move t = step_move (steps_of t)

-- the goal of the compiled task
abbrev pub probe_goal : Task → Partial
probe_goal t = (probe_of t).goal

set_zero : (k a : ℕ) → set (zeros k) a 0 ≡ zeros k
set_zero zero a = refl
set_zero (suc k) zero = refl
set_zero (suc k) (suc a) = ap (λ (r : List ℕ). 0 ∷ r) (set_zero k a)

module _ (t : Task) where
  quiet_length : length (quiet t) ≡ length t.actions
  quiet_length = length-replicate {A = ℕ} (length t.actions) 0

  busy_length : (a at : ℕ) → length (busy t a at) ≡ length t.actions
  busy_length a at = length-set (quiet t) a at ∙ quiet_length

  quiet_at : {a : ℕ} {x : Action} → At t.actions a x → 0 ≡ get_or (quiet t) a 0
  quiet_at {a} h = sym (get_or-replicate {A = ℕ} (length t.actions) a 0 0 (at_length h))

  busy_at : {a : ℕ} {x : Action} (at : ℕ) → At t.actions a x → at ≡ get_or (busy t a at) a 0
  busy_at {a} at h = sym (get_or-set_same (quiet t) a at 0 (omega (arith, quiet_length, at_length h)))

  -- a marker that is not 0 is the one of the action under way
  busy_inv : {a b : ℕ} {x y : Action} (at i : ℕ) → At t.actions a x → At t.actions b y → suc i ≡ get_or (busy t a at) b 0 → (b ≡ a) × (suc i ≡ at)
  busy_inv {a} {b} at i h g e = go (ℕ_discrete b a)
    where
      go : Dec (b ≡ a) → (b ≡ a) × (suc i ≡ at)
      go (yes p) = (p, e ∙ ap (λ (j : ℕ). get_or (busy t a at) j 0) p ∙ sym (busy_at at h))
      go (no n) = absurd (omega (arith, get_or-set_other (quiet t) a b at 0 n, quiet_at g))

-- ---- the goal asks for an idle state

zeros_all : (k : ℕ) → all_zero (zeros k) ≡ true
zeros_all zero = refl
zeros_all (suc k) = zeros_all k

and_false : (a : Bool) → (a && false) ≡ false
and_false true = refl
and_false false = refl

module _ {t : Task} {s : List ℕ} (o : State t s) where
  pub goal_idle : holds (probe_goal t) (idle t s) ≡ holds t.goal s
  goal_idle = rw (goal_holds o 0 (quiet t) (quiet_length t), zeros_all (length t.actions)) (and-true (holds t.goal s))

  pub goal_midway : (a at : ℕ) → holds (probe_goal t) (midway t s a at) ≡ false
  goal_midway a at = goal_holds o 1 (busy t a at) (busy_length t a at) ∙ and_false (holds t.goal s)

-- ---- each step moves

moved : (t : Task) {r : ℕ} {st : Step} (z : List ℕ) {z' : List ℕ} → At (steps_of t) r st → holds st.pre z ≡ true → apply st.eff z ≡ z' → move t r z ≡ next z' st.cost
moved t {r} {st} z h g e = move_at_lem (steps_of t) z h ∙ attempt_next st.pre st.eff st.cost z g ∙ ap (λ (y : List ℕ). next y st.cost) e

module _ {t : Task} {s : List ℕ} {a : ℕ} {x : Action} (o : Scene t s a x) where
  -- what an edge's step and an end's make of the markers
  edge_state : (at i v d : ℕ) (e : Edge) → apply (edge_step (variables t) a i v d e).eff (midway t s a at) ≡ midway t s a e.target
  edge_state at i v d e = edge_apply o 1 (busy t a at) (busy_length t a at) i v d e ∙ ap (λ (ms : List ℕ). s ++ (1 ∷ ms)) (set-set (quiet t) a at e.target)

  end_state : (at : ℕ) → apply (end_step (variables t) a x).eff (midway t s a at) ≡ idle t (apply x.eff s)
  end_state at =
      end_apply o 1 (busy t a at) (busy_length t a at)
      ∙ ap (λ (ms : List ℕ). apply x.eff s ++ (0 ∷ ms)) (set-set (quiet t) a at 0 ∙ set_zero (length t.actions) a)

  -- the edge for the state's value
  pub value_edge : {j : ℕ} {nd : Node} → At x.nodes j nd → At nd.edges (get_or s nd.var 0) (edge_at nd s)
  value_edge h = edge_there (action_wf o) s o.state.inside h

  pub start_move : holds x.pre s ≡ true → move t (first_step_of t.actions a) (idle t s) ≡ next (midway t s a 1) x.incoming
  start_move g =
      moved t (idle t s) (start_at t o.action) ((start_holds o 0 (quiet t) (quiet_length t)).1 ((g, refl), quiet_at t o.action)) (start_apply o 0 (quiet t) (quiet_length t))

  pub edge_move : {j : ℕ} {nd : Node} → At x.nodes j nd
      → move t (edge_number t.actions a x j (get_or s nd.var 0)) (midway t s a (suc j)) ≡ next (midway t s a (edge_at nd s).target) (edge_at nd s).weight
  edge_move {j} {nd} h =
      let d = get_or s nd.var 0 in
      moved t (midway t s a (suc j)) (edge_at_lem t o.action h (value_edge h))
      ((edge_holds o 1 (busy t a (suc j)) (busy_length t a (suc j)) (suc j) nd.var d (edge_at nd s) ((action_wf o).nodes h).var_below).1 (refl, busy_at t (suc j) o.action))
      (edge_state (suc j) (suc j) nd.var d (edge_at nd s))

  pub end_move : move t (end_number t.actions a x) (midway t s a (suc (length x.nodes))) ≡ next (idle t (apply x.eff s)) 0
  end_move =
      let m = suc (length x.nodes) in
      moved t (midway t s a m) (end_at_lem t o.action) ((end_holds o 1 (busy t a m) (busy_length t a m)).1 (busy_at t m o.action)) (end_state m)

-- ---- the other way round: what a move tells

-- from an idle state: r is the start of an action that applies
pub record Started (t : Task) (s : List ℕ) (r : ℕ) (s' : List ℕ) (c : ℕ) : Type 0 where
  pub a : ℕ
  pub x : Action
  pub scene : Scene t s a x
  pub number : r ≡ first_step_of t.actions a
  pub applies : holds x.pre s ≡ true
  pub state : midway t s a 1 ≡ s'
  pub paid : x.incoming ≡ c

-- midway in action a: r is the edge of the node reached for the state's value, or the end
pub data Passed (t : Task) (s : List ℕ) (a : ℕ) (x : Action) (at r : ℕ) (s' : List ℕ) (c : ℕ) : Type 0 where
  passed_edge : {j : ℕ} {nd : Node} → At x.nodes j nd → at ≡ suc j → r ≡ edge_number t.actions a x j (get_or s nd.var 0)
      → midway t s a (edge_at nd s).target ≡ s' → (edge_at nd s).weight ≡ c → Passed t s a x at r s' c
  passed_end : at ≡ suc (length x.nodes) → r ≡ end_number t.actions a x → idle t (apply x.eff s) ≡ s' → 0 ≡ c → Passed t s a x at r s' c

module _ {t : Task} {s : List ℕ} (o : State t s) (r : ℕ) (s' : List ℕ) (c : ℕ) where
  scene_of : {a : ℕ} {x : Action} → At t.actions a x → Scene t s a x
  scene_of h = record { state = o; action = h }

  idle_view : {st : Step} → View t r st → holds st.pre (idle t s) ≡ true → apply st.eff (idle t s) ≡ s' → st.cost ≡ c → Started t s r s' c
  idle_view (is_start {a} {x} h e) g u k = record {
    a = a;
    x = x;
    scene = scene_of h;
    number = e;
    applies = ((start_holds (scene_of h) 0 (quiet t) (quiet_length t)).0 g).0.0;
    state = sym (start_apply (scene_of h) 0 (quiet t) (quiet_length t)) ∙ u;
    paid = k;
  }
  idle_view (is_edge {j = j} {nd = nd} {d = d} {e = y} h n f e) g u k =
      absurd (omega (arith, quiet_at t h, ((edge_holds (scene_of h) 0 (quiet t) (quiet_length t) (suc j) nd.var d y ((action_wf (scene_of h)).nodes n).var_below).0 g).1))
  idle_view (is_end h e) g u k = absurd (omega (arith, quiet_at t h, (end_holds (scene_of h) 0 (quiet t) (quiet_length t)).0 g))

  pub idle_inv : move t r (idle t s) ≡ next s' c → Started t s r s' c
  idle_inv h =
      let m = step_moved (steps_of t) r (idle t s) h in
      idle_view (view t m.element) m.applied.applies m.applied.state m.applied.paid

  midway_view : {a : ℕ} {x : Action} (at : ℕ) → At t.actions a x → {st : Step} → View t r st
      → holds st.pre (midway t s a at) ≡ true → apply st.eff (midway t s a at) ≡ s' → st.cost ≡ c → Passed t s a x at r s' c
  midway_view {a} at h (is_start g e) p u k = absurd (omega (arith, ((start_holds (scene_of g) 1 (busy t a at) (busy_length t a at)).0 p).0.1))
  midway_view {a} {x} at h (is_edge {a = b} {x = y} {j = j} {nd = nd} {d = d} {e = f} g n i e) p u k =
      let q = (edge_holds (scene_of g) 1 (busy t a at) (busy_length t a at) (suc j) nd.var d f ((action_wf (scene_of g)).nodes n).var_below).0 p in
      let m = busy_inv t at j h g q.1 in
      let yx = at_same g h m.0 in
      let fe = at_same i (value_edge (scene_of g) n) q.0 in
      let z : midway t s a f.target ≡ s' = sym (edge_state (scene_of h) at (suc j) nd.var d f) ∙ rw m.0 at u in
      passed_edge (rw yx at n) (sym m.1) (rw (m.0, yx, q.0) at e) (rw fe at z) (rw fe at k)
  midway_view {a} {x} at h (is_end {a = b} {x = y} g e) p u k =
      let m = busy_inv t at (length y.nodes) h g ((end_holds (scene_of g) 1 (busy t a at) (busy_length t a at)).0 p) in
      let yx = at_same g h m.0 in
      passed_end (sym (rw yx at m.1)) (rw (m.0, yx) at e) (sym (end_state (scene_of h) at) ∙ rw (m.0, yx) at u) k

  pub midway_inv : {a : ℕ} {x : Action} (at : ℕ) → At t.actions a x → move t r (midway t s a at) ≡ next s' c → Passed t s a x at r s' c
  midway_inv {a} at h e =
      let m = step_moved (steps_of t) r (midway t s a at) e in
      midway_view at h (view t m.element) m.applied.applies m.applied.state m.applied.paid
