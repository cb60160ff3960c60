-- What a move or a plan tells of its steps.
use Rattle.std.specs.Prelude.{◌≡◌, refl, ℕ, ◌+◌, Bool, true, false, List, [], ◌∷◌, Option, None, Some, slice_get}
use Rattle.std.proofs.Common.{sym, ◌∙◌, subst}
use Rattle.facts.specs.Lists.{At}
use Rattle.facts.specs.ListLaws.{found}
use Rattle.facts.specs.Partial.{Partial, holds, apply}
use Rattle.facts.specs.Run.{Move, next, blocked, attempt, Reaches, ends, steps}
use Rattle.facts.specs.RunLaws.{attempt_next, attempt_blocked, not_blocked}
use Rattle.taskfile.specs.Task.{Action, cost, perform as performAction, action_move}
use Rattle.probefile.specs.Probe.{Step, perform as performStep, step_move}

-- what applied in the state s, with its effect and cost
pub record Applied (pre eff : Partial) (cost : ℕ) (s s' : List ℕ) (c : ℕ) : Type 0 where
  pub applies : holds pre s ≡ true
  pub state : apply eff s ≡ s'
  pub paid : cost ≡ c

attempt_inv : (pre eff : Partial) (cost : ℕ) (s : List ℕ) {s' : List ℕ} {c : ℕ} → attempt pre eff cost s ≡ next s' c → Applied pre eff cost s s' c
attempt_inv pre eff cost s {s'} {c} h = go (holds pre s) refl
  where
    go : (b : Bool) → holds pre s ≡ b → Applied pre eff cost s s' c
    go true g = let e : next (apply eff s) cost ≡ next s' c = sym (attempt_next pre eff cost s g) ∙ h in record { applies = g; state = cc; paid = cc }
    go false g = absurd (not_blocked (sym (attempt_blocked pre eff cost s g) ∙ h))

-- step number r that moves is a step st that applies
pub record StepMoved (list : List Step) (r : ℕ) (s s' : List ℕ) (c : ℕ) : Type 0 where
  pub st : Step
  pub element : At list r st
  pub applied : Applied st.pre st.eff st.cost s s' c

pub step_moved : (list : List Step) (r : ℕ) (s : List ℕ) {s' : List ℕ} {c : ℕ} → step_move list r s ≡ next s' c → StepMoved list r s s' c
unfolding step_move
step_moved list r s {s'} {c} h = go (slice_get list r) refl h
  where
    go : (o : Option Step) → slice_get list r ≡ o → elim o as (λ o. Move) [ None ↦ blocked | Some st ↦ performStep st s ] ≡ next s' c → StepMoved list r s s' c
    go None q h = absurd (not_blocked h)
    go (Some st) q h = record { st = st; element = found list r q; applied = attempt_inv st.pre st.eff st.cost s h }

-- action number a that moves is an action x that applies
pub record ActionMoved (list : List Action) (a : ℕ) (s s' : List ℕ) (c : ℕ) : Type 0 where
  pub x : Action
  pub element : At list a x
  pub applied : Applied x.pre x.eff (cost x s) s s' c

pub action_moved : (list : List Action) (a : ℕ) (s : List ℕ) {s' : List ℕ} {c : ℕ} → action_move list a s ≡ next s' c → ActionMoved list a s s' c
unfolding action_move
action_moved list a s {s'} {c} h = go (slice_get list a) refl h
  where
    go : (o : Option Action) → slice_get list a ≡ o → elim o as (λ o. Move) [ None ↦ blocked | Some x ↦ performAction x s ] ≡ next s' c → ActionMoved list a s s' c
    go None q h = absurd (not_blocked h)
    go (Some x) q h = record { x = x; element = found list a q; applied = attempt_inv x.pre x.eff (cost x s) s h }

-- the first step of a plan, and the rest
pub record Stepped (move : ℕ → List ℕ → Move) (goal : Partial) (sum a : ℕ) (list s : List ℕ) (c : ℕ) : Type 0 where
  pub state : List ℕ
  pub paid : ℕ
  pub moves : move a s ≡ next state paid
  pub reaches : Reaches move goal (sum + paid) list state c

module _ {move : ℕ → List ℕ → Move} {goal : Partial} where
  -- the sum paid before, as an equal number
  pub pay : {sum paid : ℕ} {list s : List ℕ} {c : ℕ} → sum ≡ paid → Reaches move goal sum list s c → Reaches move goal paid list s c
  pay {list = list} {s = s} {c = c} e p = subst (λ (k : ℕ). Reaches move goal k list s c) e p

  pub reaches_step : {sum a : ℕ} {list s : List ℕ} {c : ℕ} → Reaches move goal sum (a ∷ list) s c → Stepped move goal sum a list s c
  reaches_step (steps {paid = paid} {s' = s'} m r) = record { state = s'; paid = paid; moves = m; reaches = r }

  pub reaches_end : {sum : ℕ} {s : List ℕ} {c : ℕ} → Reaches move goal sum [] s c → (holds goal s ≡ true) × (sum ≡ c)
  reaches_end (ends g) = (g, refl)
