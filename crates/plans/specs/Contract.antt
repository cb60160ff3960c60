-- Contracting tells starts from all other steps by their numbers. That contracting an expansion gives back the list: proofs/Contract.antt.
use Rattle.std.specs.Prelude.{◌≡◌, refl, ℕ, suc, ◌+◌, ◌<◌, List, [], ◌∷◌, None, Some}
use Rattle.std.proofs.Common.{ap, arith, eq-eqb, ne_eqb}
use Rattle.facts.specs.Lists.{At, here, there}
use Rattle.taskfile.specs.Task.{Action}
use Rattle.compilation.specs.Compile.{step_count}
use Rattle.plans.specs.Carry.{first_step_of, started_by, contract_of}

-- ---- which numbers are starts

pub started : (first k : ℕ) {actions : List Action} {a : ℕ} {x : Action} (r q : ℕ) → At actions a x → r ≡ first + first_step_of actions a → q ≡ k + a → started_by first k actions r ≡ Some q
started first k r q here e n = rw (eq-eqb r first (omega arith), started_by) (ap Some (omega arith))
started first k r q (there {y = y} h) e n = rw (ne_eqb r first (omega arith), started_by) (started (first + step_count y) (suc k) r q h (omega arith) (omega arith))

-- a number below all of them
pub too_low : (first k : ℕ) (actions : List Action) (r : ℕ) → r < first → started_by first k actions r ≡ None
too_low first k [] r l = refl
too_low first k (x ∷ actions) r l = rw (ne_eqb r first (omega arith), started_by) (too_low (first + step_count x) (suc k) actions r (omega arith))

-- a later step of an action
pub not_started : (first k : ℕ) {actions : List Action} {a : ℕ} {x : Action} (r : ℕ) → At actions a x → first + first_step_of actions a < r → r < first + first_step_of actions a + step_count x → started_by first k actions r ≡ None
not_started first k r (here {x = x} {xs = actions}) l u = rw (ne_eqb r first (omega arith), started_by) (too_low (first + step_count x) (suc k) actions r (omega arith))
not_started first k r (there {y = y} h) l u = rw (ne_eqb r first (omega arith), started_by) (not_started (first + step_count y) (suc k) r h (omega arith) (omega arith))

-- ---- the first entry of a probe list

module _ (actions : List Action) (r : ℕ) (list : List ℕ) where
  -- no start: contracting goes on
  pub contract_other : started_by 0 0 actions r ≡ None → contract_of actions (r ∷ list) ≡ contract_of actions list
  contract_other e = rw (e, contract_of)

  -- the start of action a
  pub contract_start : {a : ℕ} → started_by 0 0 actions r ≡ Some a → contract_of actions (r ∷ list) ≡ a ∷ contract_of actions list
  contract_start e = rw (e, contract_of)
