-- Row 17 of the table, which document 02 adds, for an action number and a relaxed state: the law of all rows of relaxed costs. The condition is in specs/LackingRows.antt.
use Rattle.std.specs.Prelude.{◌≡◌, refl, ◌↔◌, Bool, false, ℕ, zero, suc, ◌+◌, List, length, Option, None, Some}
use Rattle.std.proofs.Common.{ap, ◌∙◌, inl, inr, true≢false, arith, ne_eqb}
use Rattle.std.proofs.lemmas.Option.{none-some, same_Some}
use Rattle.std.proofs.lemmas.Bool.{eqb-false}
use Rattle.facts.specs.Read.{Read, accepted, refused, ◌>>=◌}
use Rattle.facts.specs.ReadLaws.{through, onward, bind_assoc}
use Rattle.facts.specs.Lists.{At, here, there, up_from}
use Rattle.facts.specs.ListLaws.{at_length, at_none, at_up_from}
use Rattle.facts.specs.Partial.{Partial}
use Rattle.value.specs.Value.{value_of, bit_of}
use Rattle.taskfile.specs.Task.{Action, Task}
use Rattle.taskfile.specs.TaskFile.{action_of, read_task, ask_task}
use Rattle.taskfile.specs.AnswerLaws.{action_there, action_found}
use Rattle.relaxation.specs.Relaxed.{RelaxedInside, relaxed_cost}
use Rattle.relaxation.specs.RelaxedTask.{check_relaxed, allows, check_meets, relaxed_in, relaxed_task}
use Rattle.relaxation.specs.RelaxedTaskLaws.{in_lacking}
use Rattle.relaxation.proofs.RelaxedTaskLaws.{relaxed_inside, relaxed_accepted}
use Rattle.cases.specs.SiteLaws.{first, after, stops, stopped, passed, unmade}
use Rattle.cases.specs.OperationRows.{Given, of_file, of_rest, given}
use Rattle.cases.specs.StateRows.{NoSet, LowestBad, AskFault, values_found, values_refused, asked, ask_found, ask_refused, ask_numbers}
use Rattle.cases.proofs.StateRows.{relaxed_check}
use Rattle.cases.specs.LackingRows.{Lacks, LowestLacking, RelaxedFault, of_asking, lacking}

-- ---- the check

-- a set has no such value exactly if it lacks one
lacks_value : (set : ℕ) (o : Option ℕ) → (allows set o ≡ false) ↔ ((d : ℕ) × (o ≡ Some d) × (bit_of set d ≡ 0))
lacks_value set None = (λ h. absurd (true≢false h), λ l. absurd (none-some l.0 l.1))
lacks_value set (Some d) = (
  λ h. let not = eqb-false (bit_of set d) 1 h in (d, refl, omega (arith, not)),
  λ l.
      let zero_bit = ap (bit_of set) (same_Some d l.0 l.1) ∙ l.2 in
      ne_eqb (bit_of set d) 1 (λ e. omega (arith, zero_bit)),
)

-- the numbers of the variables
number_of : (k n : ℕ) {j q : ℕ} → At (up_from k n) j q → q ≡ k + j
number_of k zero h = absurd (at_none h)
number_of k (suc n) here = omega arith
number_of k (suc n) (there h) = omega (arith, number_of (suc k) n h)

module _ (pre : Partial) (sets : List ℕ) where
  abbrev numbers : List ℕ
  numbers = up_from 0 (length sets)

  number_here : {q x : ℕ} → At sets q x → At numbers q q
  number_here h = at_up_from 0 (length sets) _ _ (at_length h) (omega arith)

  abbrev good : ℕ → ℕ → Bool
  good v set = allows set (value_of pre v)

  same : (v set : ℕ) → (good v set ≡ false) ↔ Lacks pre v set
  same v set = lacks_value set (value_of pre v)

  lowest : {p : ℕ} → LowestBad (Lacks pre) numbers sets p → LowestLacking pre sets p
  lowest {p} o =
      let number : o.size ≡ p = omega (arith, number_of 0 (length sets) o.domain) in
      record { set = o.value; has = o.has; lacks = rw number at o.bad; before = λ q x l h b. o.before q q x l (number_here h) h b }

  pub meets_row : (n p : ℕ) → (check_meets pre sets ≡ refused n p) ↔ ((n ≡ 17) × LowestLacking pre sets p)
  unfolding check_meets
  meets_row n p = (
    λ h.
        let o = values_found good same 17 0 numbers sets h in
        let place : o.1 ≡ p = omega (arith, o.2) in
        (o.0, rw place at (lowest o.3)),
    λ c.
        let o = c.1 in
        rw c.0 (values_refused good same 17 0 p (number_here o.has) o.has o.lacks
        (λ q e x l i h b. let number : e ≡ q = omega (arith, number_of 0 (length sets) i) in o.before q x l h (rw number at b)) (omega arith)),
  )

-- ---- the operation

module _ (t : Task) (a : ℕ) (sets : List ℕ) where
  abbrev action : Read Action
  action = asked check_relaxed (λ x sets. x) relaxed_check t a sets

  there_is : {x : Action} → action ≡ accepted x → At t.actions a x × RelaxedInside t.sizes sets
  there_is {x} h =
      let o = through (action_of t.actions a) h in
      let u = through (check_relaxed t.sizes sets) o.then in
      let is : o.got ≡ x = let e = u.then in cc in
      (rw is at (action_found t.actions a o.first), relaxed_inside t.sizes sets u.first)

  is_there : {x : Action} → At t.actions a x → RelaxedInside t.sizes sets → action ≡ accepted x
  is_there {x} h inside =
      onward (λ y. ◌>>=◌ (check_relaxed t.sizes sets) (λ u. accepted y)) (action_there h) (onward (λ u. accepted x) (relaxed_accepted t.sizes sets inside) refl)

  relaxed_found : {n p : ℕ} → ◌>>=◌ action (λ x. relaxed_in x sets) ≡ refused n p → RelaxedFault t a sets n p
  unfolding relaxed_in
  relaxed_found {n} {p} h = elim (stops action h) [
    | first g ↦ of_asking (ask_found check_relaxed (λ x sets. x) relaxed_check t a sets g)
    | after x e g ↦
        let o = there_is e in
        let r = (meets_row x.pre sets n p).0 (unmade (check_meets x.pre sets) (λ u. relaxed_cost x sets) g) in
        lacking r.0 x o.0 o.1 r.1
  ]

  relaxed_given : {n p : ℕ} → RelaxedFault t a sets n p → ◌>>=◌ action (λ x. relaxed_in x sets) ≡ refused n p
  relaxed_given (of_asking d) = stopped (λ x. relaxed_in x sets) (ask_refused check_relaxed (λ x sets. x) relaxed_check t a sets d)
  relaxed_given {n} {p} (lacking e x h inside low) = passed (λ x. relaxed_in x sets) (is_there h inside) (in_lacking x sets ((meets_row x.pre sets n p).1 (e, low)))

module _ (f : List ℕ) (a : ℕ) (sets : List ℕ) (n p : ℕ) where
  pub relaxed_row : (relaxed_task f a sets ≡ refused n p) ↔ Given (read_task f) (λ t. RelaxedFault t a sets n p) n p
  unfolding ask_task relaxed_task
  relaxed_row = rw (bind_assoc (read_task f) _ (λ x. relaxed_in x sets)) (given (read_task f) _ _ n p (λ t. (relaxed_found t a sets, relaxed_given t a sets)))

  not_lacking : {t : Task} → (n ≡ 17 → ⊥) → RelaxedFault t a sets n p → AskFault NoSet t a sets n p
  not_lacking never (of_asking d) = d
  not_lacking never (lacking e x h inside low) = absurd (never e)

  -- a refusal other than 17
  pub asking_row : (n ≡ 17 → ⊥) → (relaxed_task f a sets ≡ refused n p) ↔ Given (read_task f) (λ t. AskFault NoSet t a sets n p) n p
  asking_row never = (
    λ h. elim (relaxed_row.0 h) [ of_file e ↦ of_file e | of_rest t r d ↦ of_rest t r (not_lacking never d) ],
    λ g. relaxed_row.1 (elim g [ of_file e ↦ of_file e | of_rest t r d ↦ of_rest t r (of_asking d) ]),
  )

-- 17, in other words
pub lacking_row : {t : Task} {a : ℕ} {sets : List ℕ} {p : ℕ} → RelaxedFault t a sets 17 p ↔ ((x : Action) × At t.actions a x × RelaxedInside t.sizes sets × LowestLacking x.pre sets p)
lacking_row {t} {a} {sets} {p} = (to refl, λ c. lacking refl c.0 c.1 c.2 c.3)
  where
    to : {n : ℕ} → n ≡ 17 → RelaxedFault t a sets n p → (x : Action) × At t.actions a x × RelaxedInside t.sizes sets × LowestLacking x.pre sets p
    to z (of_asking d) = absurd (elim (ask_numbers d) [ inl e ↦ omega arith | inr u ↦ omega arith ])
    to z (lacking e x h inside low) = (x, h, inside, low)
