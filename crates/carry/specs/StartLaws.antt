-- Laws of the limit on starts: a probe list is within it exactly if contracting gives no more actions.
use Rattle.std.specs.Prelude.{◌≡◌, refl, ℕ, zero, suc, ◌≤◌, List, [], ◌∷◌, length, Option, None, Some}
use Rattle.std.proofs.Common.{sym, ◌∙◌, arith}
use Rattle.facts.specs.Read.{accepted, refused}
use Rattle.facts.specs.ReadLaws.{not_refused}
use Rattle.taskfile.specs.Task.{Action}
use Rattle.plans.specs.Carry.{started_by, contract_of}
use Rattle.plans.specs.Contract.{contract_start, contract_other}
use Rattle.carry.specs.CarryFile.{starts_at_most}

module _ (actions : List Action) where
  -- ---- the ways in which an entry can go

  module _ (r : ℕ) (list : List ℕ) (i : ℕ) where
    -- It is no start: the rest answers.
    pub starts_other : (most : ℕ) → started_by 0 0 actions r ≡ None → starts_at_most actions most i (r ∷ list) ≡ starts_at_most actions most (suc i) list
    starts_other most e = rw (e, starts_at_most)

    -- It is a start, and one more is allowed: the rest answers, where one less is allowed.
    pub starts_one : {a : ℕ} (left : ℕ) → started_by 0 0 actions r ≡ Some a → starts_at_most actions (suc left) i (r ∷ list) ≡ starts_at_most actions left (suc i) list
    starts_one left e = rw (e, starts_at_most)

    -- It is a start, and none is allowed.
    pub starts_over : {a : ℕ} → started_by 0 0 actions r ≡ Some a → starts_at_most actions 0 i (r ∷ list) ≡ refused 8 i
    starts_over e = rw (e, starts_at_most)

  -- ---- the whole list

  -- Where contracting gives no more actions than are allowed, there is no refusal.
  abbrev WithinLimit : List ℕ → Type 0
  WithinLimit list = (most i : ℕ) → length (contract_of actions list) ≤ most → starts_at_most actions most i list ≡ accepted tt

  within_entry : (r : ℕ) (list : List ℕ) → WithinLimit list → (o : Option ℕ) → started_by 0 0 actions r ≡ o → WithinLimit (r ∷ list)
  within_entry r list on None e most i h = starts_other r list i most e ∙ on most (suc i) (rw (contract_other actions r list e) at h)
  within_entry r list on (Some a) e zero i h = let l = rw (contract_start actions r list e) at h in absurd (omega arith)
  within_entry r list on (Some a) e (suc left) i h = let l = rw (contract_start actions r list e) at h in starts_one r list i left e ∙ on left (suc i) (omega arith)

  pub starts_within : (list : List ℕ) → WithinLimit list
  starts_within [] most i h = refl
  starts_within (r ∷ list) most i h = within_entry r list (starts_within list) (started_by 0 0 actions r) refl most i h

  -- Where there is no refusal, contracting gives no more actions than are allowed.
  abbrev LimitKept : List ℕ → Type 0
  LimitKept list = (most i : ℕ) → starts_at_most actions most i list ≡ accepted tt → length (contract_of actions list) ≤ most

  kept_entry : (r : ℕ) (list : List ℕ) → LimitKept list → (o : Option ℕ) → started_by 0 0 actions r ≡ o → LimitKept (r ∷ list)
  kept_entry r list on None e most i h = rw (contract_other actions r list e) (on most (suc i) (sym (starts_other r list i most e) ∙ h))
  kept_entry r list on (Some a) e zero i h = absurd (not_refused (sym (starts_over r list i e) ∙ h))
  kept_entry r list on (Some a) e (suc left) i h = rw (contract_start actions r list e) (omega (arith, on left (suc i) (sym (starts_one r list i left e) ∙ h)))

  pub starts_kept : (list : List ℕ) → LimitKept list
  starts_kept [] most i h = omega arith
  starts_kept (r ∷ list) most i h = kept_entry r list (starts_kept list) (started_by 0 0 actions r) refl most i h
