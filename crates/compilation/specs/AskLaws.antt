-- What the goal and each step of a compiled task ask of a probe state, and what a step does to it. The state is s, then the semaphore's value σ, then the markers' ms.
use Rattle.std.specs.Prelude.{◌≡◌, refl, ◌↔◌, ℕ, suc, ◌+◌, ◌<◌, Bool, true, ◌&&◌, List, [], ◌∷◌, ◌++◌, eqb, length, get_or, set}
use Rattle.std.proofs.Common.{sym, ap, subst, ◌∙◌, suc-add, zero-add, arith, length-append, get_or-append-add, eq-eqb, eqb-true}
use Rattle.std.proofs.Math.Bool.{and-eq-true_iff}
use Rattle.std.proofs.Math.ListN.{get_or-append}
use Rattle.std.proofs.Math.Seq.{get_or-append_seam}
use Rattle.std.proofs.lemmas.List.{set_at}
use Rattle.facts.specs.Lists.{At}
use Rattle.facts.specs.ListLaws.{at_length}
use Rattle.facts.specs.Partial.{Partial, holds, apply, empty}
use Rattle.facts.specs.PartialLaws.{length_apply, inside_length, apply_inside, Below, wf_below, holds_empty, apply_empty}
use Rattle.facts.specs.State.{Inside}
use Rattle.taskfile.specs.Task.{Edge, Action, Task, WfAction, WfTask}
use Rattle.compilation.specs.Extend.{extend, clear}
use Rattle.compilation.specs.Compile.{variables, marker, start_step, edge_step, end_step, probe_of}
use Rattle.compilation.specs.ExtendLaws.{below_empty, below_more, holds_append, apply_append, below_extend, holds_extend, apply_extend, all_zero, clear_holds}

set_append_add : (s z : List ℕ) (k v : ℕ) → set (s ++ z) (length s + k) v ≡ s ++ set z k v
set_append_add [] z k v = rw zero-add
set_append_add (x ∷ s) z k v = rw (suc-add (length s) k) (ap (λ (r : List ℕ). x ∷ r) (set_append_add s z k v))

eqb_iff : (m n : ℕ) → (eqb m n ≡ true) ↔ (m ≡ n)
eqb_iff m n = (eqb-true m n, eq-eqb m n)

-- a test that computes to one whose meaning is known
asked : {a b : Bool} {A : Type 0} → a ≡ b → (b ≡ true) ↔ A → (a ≡ true) ↔ A
asked {A = A} e h = subst (λ (c : Bool). (c ≡ true) ↔ A) (sym e) h

-- s is a state of the well-formed task t
pub record State (t : Task) (s : List ℕ) : Type 0 where
  pub wf : WfTask t
  pub inside : Inside t.sizes s

-- the goal asks for the task's goal, and for semaphore and markers at 0
pub goal_holds : {t : Task} {s : List ℕ} → State t s → (σ : ℕ) (ms : List ℕ) → length ms ≡ length t.actions → holds (probe_of t).goal (s ++ (σ ∷ ms)) ≡ (holds t.goal s && all_zero (σ ∷ ms))
unfolding probe_of
goal_holds {t} {s} o σ ms e =
    subst (λ (k : ℕ). holds (clear t.goal (variables t) (suc k)) (s ++ (σ ∷ ms)) ≡ (holds t.goal s && all_zero (σ ∷ ms))) e
    (clear_holds (σ ∷ ms) s t.goal (variables t) (inside_length t.sizes s o.inside) (wf_below o.wf.goal))

-- and x is its action number a
pub record Scene (t : Task) (s : List ℕ) (a : ℕ) (x : Action) : Type 0 where
  pub state : State t s
  pub action : At t.actions a x

module _ {t : Task} {s : List ℕ} {a : ℕ} {x : Action} (o : Scene t s a x) where
  len : variables t ≡ length s
  len = inside_length t.sizes s o.state.inside

  pub action_wf : WfAction t.sizes x
  action_wf = o.state.wf.actions o.action

  pub next_state : State t (apply x.eff s)
  next_state = record { wf = o.state.wf; inside = apply_inside x.eff t.sizes s action_wf.eff.values o.state.inside }

  module _ (σ : ℕ) (ms : List ℕ) (markers : length ms ≡ length t.actions) where
    -- one more fact in a partial state: the semaphore's
    sem_holds : (p : Partial) (v : ℕ) → Below (variables t) p → holds (extend p (variables t) v) (s ++ (σ ∷ ms)) ≡ (holds p s && eqb v σ)
    sem_holds p v h =
        rw (holds_extend v (variables t) p (s ++ (σ ∷ ms)) h (simp (length-append, len) (omega arith)), holds_append s (σ ∷ ms) p (rw len at h), len, get_or-append_seam s σ ms 0)

    sem_apply : (p : Partial) (v : ℕ) → Below (variables t) p → apply (extend p (variables t) v) (s ++ (σ ∷ ms)) ≡ apply p s ++ (v ∷ ms)
    sem_apply p v h =
        rw (apply_extend v (variables t) p (s ++ (σ ∷ ms)) h (simp (length-append, len) (omega arith)), apply_append s (σ ∷ ms) p (rw len at h))
        (set_at (apply p s) σ ms v (variables t) (length_apply p s ∙ sym len))

    -- or the one of a's marker
    marker_below : marker (variables t) a < length (s ++ (σ ∷ ms))
    marker_below = simp length-append (omega (arith, len, markers, at_length o.action))

    mark_holds : (p : Partial) (v : ℕ) → Below (suc (variables t)) p → holds (extend p (marker (variables t) a) v) (s ++ (σ ∷ ms)) ≡ (holds p (s ++ (σ ∷ ms)) && eqb v (get_or ms a 0))
    mark_holds p v h =
        rw (holds_extend v (marker (variables t) a) p (s ++ (σ ∷ ms)) (below_more (suc (variables t)) (marker (variables t) a) p h (omega arith)) marker_below, len, get_or-append-add s (σ ∷ ms) (suc a) 0)

    mark_apply : (p : Partial) (v : ℕ) (s' : List ℕ) (σ' : ℕ) → Below (suc (variables t)) p → apply p (s ++ (σ ∷ ms)) ≡ s' ++ (σ' ∷ ms) → length s' ≡ length s
        → apply (extend p (marker (variables t) a) v) (s ++ (σ ∷ ms)) ≡ s' ++ (σ' ∷ set ms a v)
    mark_apply p v s' σ' h e k =
        rw (apply_extend v (marker (variables t) a) p (s ++ (σ ∷ ms)) (below_more (suc (variables t)) (marker (variables t) a) p h (omega arith)) marker_below, e, len, ← k)
        (set_append_add s' (σ' ∷ ms) (suc a) v)

    -- a start asks for the precondition, the semaphore and the marker
    pub start_holds : (holds (start_step (variables t) a x).pre (s ++ (σ ∷ ms)) ≡ true) ↔ (((holds x.pre s ≡ true) × (0 ≡ σ)) × (0 ≡ get_or ms a 0))
    start_holds =
        let h = wf_below action_wf.pre in
        asked
        (mark_holds (extend x.pre (variables t) 0) 0 (below_extend 0 (variables t) x.pre h) ∙ ap (λ (b : Bool). b && eqb 0 (get_or ms a 0)) (sem_holds x.pre 0 h))
        (simp (and-eq-true_iff, eqb_iff) (λ p. p, λ p. p))

    -- it sets semaphore and marker, and nothing of the task
    pub start_apply : apply (start_step (variables t) a x).eff (s ++ (σ ∷ ms)) ≡ s ++ (1 ∷ set ms a 1)
    start_apply =
        let h = below_empty (variables t) in
        mark_apply (extend empty (variables t) 1) 1 s 1 (below_extend 1 (variables t) empty h) (rw (sem_apply empty 1 h, apply_empty s)) refl

    -- an edge asks for its value and its node
    pub edge_holds : (i v d : ℕ) (e : Edge) → v < variables t → (holds (edge_step (variables t) a i v d e).pre (s ++ (σ ∷ ms)) ≡ true) ↔ ((d ≡ get_or s v 0) × (i ≡ get_or ms a 0))
    edge_holds i v d e h =
        let below = below_more (suc v) (suc (variables t)) (extend empty v d) (below_extend d v empty (below_empty v)) (omega arith) in
        asked {b = eqb d (get_or s v 0) && eqb i (get_or ms a 0)}
        (mark_holds (extend empty v d) i below
        ∙ rw (holds_extend d v empty (s ++ (σ ∷ ms)) (below_empty v) (omega (arith, marker_below)), holds_empty (s ++ (σ ∷ ms)), get_or-append s (σ ∷ ms) 0 v (omega (arith, len))))
        (simp (and-eq-true_iff, eqb_iff) (λ p. p, λ p. p))

    -- it moves the marker
    pub edge_apply : (i v d : ℕ) (e : Edge) → apply (edge_step (variables t) a i v d e).eff (s ++ (σ ∷ ms)) ≡ s ++ (σ ∷ set ms a e.target)
    edge_apply i v d e = mark_apply empty e.target s σ (below_empty (suc (variables t))) (apply_empty (s ++ (σ ∷ ms))) refl

    -- an end asks for the terminal
    pub end_holds : (holds (end_step (variables t) a x).pre (s ++ (σ ∷ ms)) ≡ true) ↔ (suc (length x.nodes) ≡ get_or ms a 0)
    end_holds =
        let m = suc (length x.nodes) in
        asked (mark_holds empty m (below_empty (suc (variables t))) ∙ ap (λ (b : Bool). b && eqb m (get_or ms a 0)) (holds_empty (s ++ (σ ∷ ms)))) (eqb_iff m (get_or ms a 0))

    -- it sets the effect, and clears semaphore and marker
    pub end_apply : apply (end_step (variables t) a x).eff (s ++ (σ ∷ ms)) ≡ apply x.eff s ++ (0 ∷ set ms a 0)
    end_apply =
        let h = wf_below action_wf.eff in
        mark_apply (extend x.eff (variables t) 0) 0 (apply x.eff s) 0 (below_extend 0 (variables t) x.eff h) (sem_apply x.eff 0 h) (length_apply x.eff s)
