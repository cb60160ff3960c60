-- Rows 4, 11 and 12 of document 01's table, for an action number and a state or a relaxed state: conditions, and the law of each row. Row 17 is in LackingRows.
use Rattle.std.specs.Prelude.{◌≡◌, refl, ◌↔◌, ◌⊎◌, ℕ, zero, suc, ◌+◌, ◌^◌, ◌≤◌, ◌<◌, Bool, true, false, List, [], ◌∷◌, ltb, eqb, length}
use Rattle.std.proofs.Common.{sym, ap, ◌∙◌, inl, inr, arith, true≢false, ltb-false, eqb-true, le-ltb}
use Rattle.std.proofs.lemmas.Bool.{eqb-false}
use Rattle.facts.specs.Read.{Read, accepted, refused, check, ◌>>=◌}
use Rattle.facts.specs.ReadLaws.{checked}
use Rattle.facts.specs.Lists.{At, here, there}
use Rattle.facts.specs.State.{check_each, check_with, check_state}
use Rattle.facts.specs.StateLaws.{with_width, with_values}
use Rattle.estimate.specs.Number.{Number}
use Rattle.estimate.specs.Additive.{estimate_file}
use Rattle.taskfile.specs.Task.{Action, Task, walk}
use Rattle.taskfile.specs.TaskFile.{action_of, read_task, ask_task, cost_task}
use Rattle.cases.specs.SiteLaws.{first, after, stops, stopped, not_accepted, failed, unmade}
use Rattle.cases.specs.OperationRows.{Given, given}

-- ---- what is wrong with a variable, by its domain size and by what the state has for it

-- the value is outside its domain
abbrev pub Beyond : ℕ → ℕ → Type 0
Beyond size value = size ≤ value

-- the set is empty or has a stray bit
abbrev pub NoSet : ℕ → ℕ → Type 0
NoSet size set = (set ≡ 0) ⊎ (2 ^ size ≤ set)

-- ---- the refusals, where `Bad` is wrong with a variable

module _ (Bad : ℕ → ℕ → Type 0) where
  -- The variable p is the lowest with which it is wrong.
  pub record LowestBad (sizes s : List ℕ) (p : ℕ) : Type 0 where
    pub size : ℕ
    pub value : ℕ
    pub domain : At sizes p size
    pub has : At s p value
    pub bad : Bad size value
    pub before : (q d x : ℕ) → q < p → At sizes q d → At s q x → Bad d x → ⊥

  -- of a state, by number and place
  pub data StateFault (sizes s : List ℕ) (n p : ℕ) : Type 0 where
    wrong_length : n ≡ 12 → (length s ≡ length sizes → ⊥) → p ≡ 0 → StateFault sizes s n p
    bad_variable : n ≡ 4 → length s ≡ length sizes → LowestBad sizes s p → StateFault sizes s n p

  -- of an action number and a state, by number and place
  pub data AskFault (t : Task) (a : ℕ) (s : List ℕ) (n p : ℕ) : Type 0 where
    no_action : n ≡ 11 → length t.actions ≤ a → p ≡ 0 → AskFault t a s n p
    of_state : a < length t.actions → StateFault t.sizes s n p → AskFault t a s n p

-- The variable p is the lowest whose value is outside its domain.
abbrev pub Outside : List ℕ → List ℕ → ℕ → Type 0
Outside sizes s p = LowestBad Beyond sizes s p

-- The variable p is the lowest whose set is empty or has a stray bit.
abbrev pub Stray : List ℕ → List ℕ → ℕ → Type 0
Stray sizes sets p = LowestBad NoSet sizes sets p

-- a check of states refuses exactly those with which this is wrong
abbrev pub Refuses : (List ℕ → List ℕ → Read (Unit {0})) → (ℕ → ℕ → Type 0) → Type 0
Refuses checks Bad = (sizes s : List ℕ) (n p : ℕ) → (checks sizes s ≡ refused n p) ↔ StateFault Bad sizes s n p

-- ---- a check by a test

module _ {Bad : ℕ → ℕ → Type 0} (good : ℕ → ℕ → Bool) (same : (d x : ℕ) → (good d x ≡ false) ↔ Bad d x) where
  not_bad : {d x : ℕ} → good d x ≡ true → Bad d x → ⊥
  not_bad {d} {x} h b = true≢false (sym h ∙ (same d x).1 b)

  not_good : (d x : ℕ) → (Bad d x → ⊥) → good d x ≡ true
  not_good d x never = go (good d x) refl
    where
      go : (b : Bool) → good d x ≡ b → good d x ≡ true
      go true e = e
      go false e = absurd (never ((same d x).0 e))

  -- one variable more at the front, with which it is not wrong
  later : {d x : ℕ} {sizes s : List ℕ} {p : ℕ} → (Bad d x → ⊥) → LowestBad Bad sizes s p → LowestBad Bad (d ∷ sizes) (x ∷ s) (suc p)
  later {d} {x} {sizes} {s} {p} never o = record { size = o.size; value = o.value; domain = there o.domain; has = there o.has; bad = o.bad; before = go }
    where
      go : (q e y : ℕ) → q < suc p → At (d ∷ sizes) q e → At (x ∷ s) q y → Bad e y → ⊥
      go _ _ _ l here here b = never b
      go _ _ _ l (there h) (there g) b = o.before _ _ _ (omega arith) h g b

  pub values_found : (m v : ℕ) (sizes s : List ℕ) {n p : ℕ} → check_each m good v sizes s ≡ refused n p → (n ≡ m) × (q : ℕ) × (p ≡ v + q) × LowestBad Bad sizes s q
  values_found m v [] s h = absurd (not_accepted h)
  values_found m v (d ∷ sizes) [] h = absurd (not_accepted h)
  values_found m v (d ∷ sizes) (x ∷ s) h = elim (stops (check (good d x) m v) h) [
    | first g ↦
        let q = failed (good d x) m v g in
        (q.1, 0, omega (arith, q.2), record { size = d; value = x; domain = here; has = here; bad = (same d x).0 q.0; before = λ r e y l. absurd (omega arith) })
    | after u a g ↦
        let o = values_found m (suc v) sizes s g in
        (o.0, suc o.1, omega (arith, o.2), later (not_bad (checked (good d x) m v a)) o.3)
  ]

  pub values_refused : {sizes s : List ℕ} {q d x : ℕ} (m v p : ℕ) → At sizes q d → At s q x → Bad d x → ((r e y : ℕ) → r < q → At sizes r e → At s r y → Bad e y → ⊥)
      → p ≡ v + q → check_each m good v sizes s ≡ refused m p
  values_refused m v p (here {x = d}) (here {x = x}) b before e = rw ((same d x).1 b) (ap (refused m) (omega arith))
  values_refused m v p (there {y = d} h) (there {y = x} g) b before e =
      rw (not_good d x (before 0 d x (omega arith) here here)) (values_refused m (suc v) p h g b (λ r e y l i j. before (suc r) e y (omega arith) (there i) (there j)) (omega arith))

  with_found : (sizes s : List ℕ) {n p : ℕ} → check_with good sizes s ≡ refused n p → StateFault Bad sizes s n p
  with_found sizes s {n} {p} h =
      let alike = eqb (length s) (length sizes) in
      elim (stops (check alike 12 0) h) [
        | first g ↦
            let q = failed alike 12 0 g in
            wrong_length q.1 (eqb-false (length s) (length sizes) q.0) q.2
        | after u e g ↦
            let o = values_found 4 0 sizes s g in
            let place : o.1 ≡ p = omega (arith, o.2) in
            bad_variable o.0 (eqb-true (length s) (length sizes) (checked alike 12 0 e)) (rw place at o.3)
      ]

  with_refused : (sizes s : List ℕ) {n p : ℕ} → StateFault Bad sizes s n p → check_with good sizes s ≡ refused n p
  with_refused sizes s (wrong_length e d q) = rw (e, q) (with_width good sizes s d)
  with_refused sizes s {p = p} (bad_variable e d o) = rw e (with_values good sizes s d ∙ values_refused 4 0 p o.domain o.has o.bad o.before (omega arith))

  pub with_row : Refuses (check_with good) Bad
  with_row sizes s n p = (with_found sizes s, with_refused sizes s)

-- a state
state_check : Refuses check_state Beyond
unfolding check_state
state_check = with_row (λ d x. ltb x d) (λ d x. (ltb-false x d, le-ltb x d))

-- ---- a file as it was read, and then a state

pub estimate_row : {X : Type 0} (sizes : X → List ℕ) (estimate : X → List ℕ → Number) (file : Read X) (s : List ℕ) (n p : ℕ)
    → (estimate_file sizes estimate file s ≡ refused n p) ↔ Given file (λ x. StateFault Beyond (sizes x) s n p) n p
unfolding estimate_file
estimate_row sizes estimate file s n p = given file _ _ n p (λ x. let row = state_check (sizes x) s n p in (λ h. row.0 (unmade (check_state (sizes x) s) _ h), λ d. stopped _ (row.1 d)))

-- ---- an action number, and then a state

-- there is no action of this number, or there is one
pub action_at_lem : (actions : List Action) (a : ℕ) → ((length actions ≤ a) × (action_of actions a ≡ refused 11 0)) ⊎ ((a < length actions) × (x : Action) × (action_of actions a ≡ accepted x))
unfolding action_of
action_at_lem [] a = inl (omega arith, refl)
action_at_lem (x ∷ actions) zero = inr (omega arith, x, refl)
action_at_lem (x ∷ actions) (suc a) = elim (action_at_lem actions a) [ inl q ↦ inl (omega (arith, q.0), q.1) | inr q ↦ inr (omega (arith, q.0), q.1, q.2) ]

module _ {A : Type 0} {Bad : ℕ → ℕ → Type 0} (checks : List ℕ → List ℕ → Read (Unit {0})) (answer : Action → List ℕ → A) (refuses : Refuses checks Bad) where
  module _ (t : Task) (a : ℕ) (s : List ℕ) where
    abbrev pub asked : Read A
    asked = ◌>>=◌ (action_of t.actions a) (λ x. ◌>>=◌ (checks t.sizes s) (λ u. accepted (answer x s)))

    pub ask_found : {n p : ℕ} → asked ≡ refused n p → AskFault Bad t a s n p
    ask_found {n} {p} h = elim (action_at_lem t.actions a) [
      | inl q ↦
          let g : refused 11 0 ≡ refused n p = rw q.1 at h in
          let eleven : n ≡ 11 = cc in
          let place : p ≡ 0 = cc in
          no_action eleven q.0 place
      | inr q ↦ of_state q.0 ((refuses t.sizes s n p).0 (unmade (checks t.sizes s) (λ u. answer q.1 s) (rw q.2 at h)))
    ]

    pub ask_refused : {n p : ℕ} → AskFault Bad t a s n p → asked ≡ refused n p
    ask_refused (no_action e l q) = elim (action_at_lem t.actions a) [ inl o ↦ rw (o.1, e, q) | inr o ↦ absurd (omega (arith, o.0)) ]
    ask_refused {n} {p} (of_state l d) = elim (action_at_lem t.actions a) [ inl o ↦ absurd (omega (arith, o.0)) | inr o ↦ rw (o.2, (refuses t.sizes s n p).1 d) ]

  ask_row : (f : List ℕ) (a : ℕ) (s : List ℕ) (n p : ℕ) → (ask_task checks answer f a s ≡ refused n p) ↔ Given (read_task f) (λ t. AskFault Bad t a s n p) n p
  unfolding ask_task
  ask_row f a s n p = given (read_task f) _ _ n p (λ t. (ask_found t a s, ask_refused t a s))

-- what an action costs in a state
pub cost_row : (f : List ℕ) (a : ℕ) (s : List ℕ) (n p : ℕ) → (cost_task f a s ≡ refused n p) ↔ Given (read_task f) (λ t. AskFault Beyond t a s n p) n p
cost_row f a s n p = ask_row check_state walk state_check f a s n p

-- ---- what is refused, by its number

module _ {Bad : ℕ → ℕ → Type 0} {sizes s : List ℕ} where
  by_number : {n p : ℕ} → StateFault Bad sizes s n p → (n ≡ 4 → (length s ≡ length sizes) × LowestBad Bad sizes s p) × (n ≡ 12 → (length s ≡ length sizes → ⊥) × (p ≡ 0))
  by_number (bad_variable e d o) = (λ z. (d, o), λ z. absurd (omega arith))
  by_number (wrong_length e d q) = (λ z. absurd (omega arith), λ z. (d, q))

  pub bad_row : (p : ℕ) → StateFault Bad sizes s 4 p ↔ ((length s ≡ length sizes) × LowestBad Bad sizes s p)
  bad_row p = (λ d. (by_number d).0 refl, λ c. bad_variable refl c.0 c.1)

  pub wrong_length_row : (p : ℕ) → StateFault Bad sizes s 12 p ↔ ((length s ≡ length sizes → ⊥) × (p ≡ 0))
  wrong_length_row p = (λ d. (by_number d).1 refl, λ c. wrong_length refl c.0 c.1)

  pub state_numbers : {n p : ℕ} → StateFault Bad sizes s n p → (n ≡ 4) ⊎ (n ≡ 12)
  state_numbers (wrong_length e d q) = inr e
  state_numbers (bad_variable e d o) = inl e

module _ {Bad : ℕ → ℕ → Type 0} {t : Task} {a : ℕ} {s : List ℕ} where
  action_of_lem : {n p : ℕ} → n ≡ 11 → AskFault Bad t a s n p → (length t.actions ≤ a) × (p ≡ 0)
  action_of_lem z (no_action e l q) = (l, q)
  action_of_lem z (of_state l d) = absurd (elim (state_numbers d) [ inl e ↦ omega arith | inr e ↦ omega arith ])

  state_of : {n p : ℕ} → (n ≡ 11 → ⊥) → AskFault Bad t a s n p → (a < length t.actions) × StateFault Bad t.sizes s n p
  state_of z (no_action e l q) = absurd (z e)
  state_of z (of_state l d) = (l, d)

  pub action_row : (p : ℕ) → AskFault Bad t a s 11 p ↔ ((length t.actions ≤ a) × (p ≡ 0))
  action_row p = (action_of_lem refl, λ c. no_action refl c.0 c.1)

  -- a refusal of the state, in other words
  pub state_row : {n p : ℕ} {condition : Type 0} → (n ≡ 11 → ⊥) → StateFault Bad t.sizes s n p ↔ condition → AskFault Bad t a s n p ↔ ((a < length t.actions) × condition)
  state_row z same = (λ d. let o = state_of z d in (o.0, same.0 o.1), λ c. of_state c.0 (same.1 c.1))

  pub ask_numbers : {n p : ℕ} → AskFault Bad t a s n p → (n ≡ 4) ⊎ ((11 ≤ n) × (n ≤ 12))
  ask_numbers (no_action e l q) = inr (omega arith, omega arith)
  ask_numbers (of_state l d) = elim (state_numbers d) [ inl e ↦ inl e | inr e ↦ inr (omega arith, omega arith) ]
