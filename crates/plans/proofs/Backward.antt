-- Every plan of the compiled task is the expansion of a source plan with the same sum.
use Rattle.std.specs.Prelude.{◌≡◌, refl, ℕ, suc, ◌+◌, true, List, [], ◌∷◌, ◌++◌, length, get_or}
use Rattle.std.proofs.Common.{sym, ap₂, ◌∙◌, subst₂, arith}
use Rattle.facts.specs.Lists.{At}
use Rattle.facts.specs.ListLaws.{look}
use Rattle.facts.specs.Partial.{holds, apply}
use Rattle.facts.specs.Run.{Reaches, ends, steps}
use Rattle.facts.specs.RunLaws.{attempt_next}
use Rattle.taskfile.specs.Task.{Node, Action, Task, edge_at, cost, action_move, WfTask}
use Rattle.taskfile.specs.TaskLaws.{move_at_lem}
use Rattle.probefile.specs.Probe.{ProbePlan}
use Rattle.compilation.specs.Compile.{probe_of}
use Rattle.plans.specs.Carry.{first_step_of, expand_from, expand}
use Rattle.plans.specs.RunLaws.{pay, reaches_step, reaches_end}
use Rattle.plans.specs.ViewLaws.{edge_number, end_number}
use Rattle.compilation.specs.AskLaws.{State, Scene, next_state}
use Rattle.plans.specs.MoveLaws.{idle, midway, goal_idle, goal_midway, idle_inv, midway_inv, passed_edge, passed_end}
use Rattle.plans.specs.Forward.{steps_left, cost_left, Runs, cost_whole, node_steps_lem, node_cost, last_steps, last_cost}
use Rattle.plans.specs.Backward.{Comes}

-- from the state s, where `sum` was paid, the source list is a plan with the sum c
abbrev SourceRuns : Task → ℕ → List ℕ → List ℕ → ℕ → Type 0
SourceRuns t sum list s c = Reaches (action_move t.actions) t.goal sum list s c

-- the rest of a probe plan from an idle state is a source plan's expansion
record FromIdle (t : Task) (rest s : List ℕ) (sum c : ℕ) : Type 0 where
  list : List ℕ
  expands : rest ≡ expand_from t.actions list s
  plan : SourceRuns t sum list s c

-- midway in action a the rest of the action comes first
record FromMidway (t : Task) (rest s : List ℕ) (sum c a : ℕ) (x : Action) (at : ℕ) : Type 0 where
  list : List ℕ
  expands : rest ≡ steps_left t s a x at ++ expand_from t.actions list (apply x.eff s)
  plan : SourceRuns t (sum + cost_left s x at) list (apply x.eff s) c

-- a list of one more step is made from the number and from the rest
one_more : {r k : ℕ} {l m : List ℕ} → r ≡ k → l ≡ m → r ∷ l ≡ k ∷ m
one_more p q = ap₂ (λ (i : ℕ) (z : List ℕ). i ∷ z) p q

module _ {t : Task} {s : List ℕ} {a : ℕ} {x : Action} (o : Scene t s a x) {rest : List ℕ} {sum c r : ℕ} where
  add_start : r ≡ first_step_of t.actions a → holds x.pre s ≡ true → FromMidway t rest s (sum + x.incoming) c a x 1 → FromIdle t (r ∷ rest) s sum c
  add_start n g m = record {
    list = a ∷ m.list;
    expands = rw (look o.action, expand_from) (one_more n m.expands);
    plan = steps {sum = sum} (move_at_lem t.actions s o.action ∙ attempt_next x.pre x.eff (cost x s) s g) (pay (omega (arith, cost_whole x s)) m.plan);
  }

  add_edge : {j : ℕ} {nd : Node} {at : ℕ} → At x.nodes j nd → at ≡ suc j → r ≡ edge_number t.actions a x j (get_or s nd.var 0)
      → FromMidway t rest s (sum + (edge_at nd s).weight) c a x (edge_at nd s).target → FromMidway t (r ∷ rest) s sum c a x at
  add_edge h q n m = record { list = m.list; expands = rw (q, node_steps_lem o h) (one_more n m.expands); plan = pay (rw q (omega (arith, node_cost o h))) m.plan }

  add_end : {at : ℕ} → at ≡ suc (length x.nodes) → r ≡ end_number t.actions a x → FromIdle t rest (apply x.eff s) (sum + 0) c → FromMidway t (r ∷ rest) s sum c a x at
  add_end q n m = record { list = m.list; expands = rw (q, last_steps o) (one_more n m.expands); plan = pay (rw q (omega (arith, last_cost o))) m.plan }

module _ (t : Task) where
  -- a probe plan from each idle state comes from a source plan
  abbrev Idle : List ℕ → Type 0
  Idle rest = (s : List ℕ) (sum c : ℕ) → State t s → Runs t sum rest (idle t s) c → FromIdle t rest s sum c

  -- and so does one from midway in an action, behind the rest of that action
  abbrev Midway : List ℕ → Type 0
  Midway rest = (s : List ℕ) (a : ℕ) (x : Action) (at sum c : ℕ) → Scene t s a x → Runs t sum rest (midway t s a at) c → FromMidway t rest s sum c a x at

  idle_nil : Idle []
  idle_nil s sum c o p =
      let e = reaches_end p in
      let met = sym (goal_idle o) ∙ e.0 in
      record { list = []; expands = refl; plan = rw (← e.1) (ends met) }

  midway_nil : Midway []
  midway_nil s a x at sum c o p =
      let q = sym (goal_midway o.state a at) ∙ (reaches_end p).0 in
      let z : ◌≡◌ {A = ℕ} 0 1 = cc in
      absurd (omega arith)

  idle_cons : (r : ℕ) (rest : List ℕ) → Midway rest → Idle (r ∷ rest)
  idle_cons r rest mids s sum c o p =
      let k = reaches_step p in
      let b = idle_inv o r k.state k.paid k.moves in
      let on = subst₂ (λ (z : List ℕ) (q : ℕ). Runs t (sum + q) rest z c) (sym b.state) (sym b.paid) k.reaches in
      add_start b.scene b.number b.applies (mids s b.a b.x 1 (sum + b.x.incoming) c b.scene on)

  midway_cons : (r : ℕ) (rest : List ℕ) → Idle rest → Midway rest → Midway (r ∷ rest)
  midway_cons r rest idles mids s a x at sum c o p =
      let k = reaches_step p in
      let Goes : List ℕ → ℕ → Type 0 = λ z q. Runs t (sum + q) rest z c in
      elim (midway_inv o.state r k.state k.paid at o.action k.moves) [
        | passed_edge {nd = nd} i q n z w ↦ add_edge o i q n (mids s a x (edge_at nd s).target (sum + (edge_at nd s).weight) c o (subst₂ Goes (sym z) (sym w) k.reaches))
        | passed_end q n z w ↦ add_end o q n (idles (apply x.eff s) (sum + 0) c (next_state o) (subst₂ Goes (sym z) (sym w) k.reaches))
      ]

  both : (rest : List ℕ) → Idle rest × Midway rest
  both [] = (idle_nil, midway_nil)
  both (r ∷ rest) = (idle_cons r rest (both rest).1, midway_cons r rest (both rest).0 (both rest).1)

-- each probe plan comes from a source plan with the same sum
pub backward : (t : Task) → WfTask t → (probe-list : List ℕ) (c : ℕ) → ProbePlan (probe_of t) probe-list c → Comes t probe-list c
unfolding probe_of expand
backward t wf probe-list c p =
    let q = (both t probe-list).0 t.init 0 c (record { wf = wf; inside = wf.init }) p in
    record { list = q.list; expands = q.expands; plan = q.plan }
