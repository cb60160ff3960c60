-- Row 8 of document 01's table for contracting: more than so many starts in a probe list, at the index of the first start past them.
use Rattle.std.specs.Prelude.{◌≡◌, refl, ◌↔◌, ℕ, zero, suc, ◌+◌, List, [], ◌∷◌, length, take, Option, None, Some}
use Rattle.std.proofs.Common.{sym, ap, ◌∙◌, arith}
use Rattle.facts.specs.Read.{refused}
use Rattle.facts.specs.Lists.{At, here, there}
use Rattle.taskfile.specs.Task.{Action}
use Rattle.plans.specs.Carry.{started_by, contract_of}
use Rattle.plans.specs.Contract.{contract_start, contract_other}
use Rattle.carry.specs.CarryFile.{starts_at_most}
use Rattle.carry.specs.StartLaws.{starts_other, starts_one, starts_over}
use Rattle.cases.specs.SiteLaws.{not_accepted}

-- The entry at p is a start, and there are `most` starts before it: what the entries before it are contracted to has an action for each.
pub record Over (actions : List Action) (most : ℕ) (list : List ℕ) (p : ℕ) : Type 0 where
  pub step : ℕ
  pub action : ℕ
  pub entry : At list p step
  pub starts : started_by 0 0 actions step ≡ Some action
  pub before : length (contract_of actions (take p list)) ≡ most

module _ (actions : List Action) where
  -- the first start past `most` is `q` entries on
  abbrev FoundOver : List ℕ → ℕ → ℕ → Type 0
  FoundOver list n p = (most i : ℕ) → starts_at_most actions most i list ≡ refused n p → (n ≡ 8) × (q : ℕ) × (p ≡ i + q) × Over actions most list q

  entry_found : (r : ℕ) (list : List ℕ) {n p : ℕ} → FoundOver list n p → (o : Option ℕ) → started_by 0 0 actions r ≡ o → FoundOver (r ∷ list) n p
  entry_found r list on None e most i h =
      let o = on most (suc i) (sym (starts_other actions r list i most e) ∙ h) in
      let v = o.3 in
      let same = ap length (contract_other actions r (take o.1 list) e) in
      (o.0, suc o.1, omega (arith, o.2), record { step = v.step; action = v.action; entry = there v.entry; starts = v.starts; before = same ∙ v.before })
  entry_found r list {n} {p} on (Some a) e zero i h =
      let g = sym (starts_over actions r list i e) ∙ h in
      let eight : n ≡ 8 = cc in
      let place : p ≡ i = cc in
      (eight, 0, omega arith, record { step = r; action = a; entry = here; starts = e; before = refl })
  entry_found r list on (Some a) e (suc left) i h =
      let o = on left (suc i) (sym (starts_one actions r list i left e) ∙ h) in
      let v = o.3 in
      let more = ap length (contract_start actions r (take o.1 list) e) in
      (o.0, suc o.1, omega (arith, o.2), record { step = v.step; action = v.action; entry = there v.entry; starts = v.starts; before = more ∙ ap suc v.before })

  found_over : (list : List ℕ) {n p : ℕ} → FoundOver list n p
  found_over [] most i h = absurd (not_accepted h)
  found_over (r ∷ list) most i h = entry_found r list (found_over list) (started_by 0 0 actions r) refl most i h

  -- the refusal, `q` entries on
  abbrev RefusedOver : List ℕ → ℕ → ℕ → Type 0
  RefusedOver list q p = (most i : ℕ) → length (contract_of actions (take q list)) ≡ most → p ≡ i + q → starts_at_most actions most i list ≡ refused 8 p

  entry_refused : (b q p : ℕ) (list : List ℕ) → RefusedOver list q p → (o : Option ℕ) → started_by 0 0 actions b ≡ o → RefusedOver (b ∷ list) (suc q) p
  entry_refused b q p list on None g most i l e =
      starts_other actions b list i most g ∙ on most (suc i) (sym (ap length (contract_other actions b (take q list) g)) ∙ l) (omega arith)
  entry_refused b q p list on (Some c) g zero i l e = let z = ap length (contract_start actions b (take q list) g) in absurd (omega arith)
  entry_refused b q p list on (Some c) g (suc left) i l e =
      let z = ap length (contract_start actions b (take q list) g) in
      starts_one actions b list i left g ∙ on left (suc i) (omega arith) (omega arith)

  refused_over : {list : List ℕ} {q r a : ℕ} (p : ℕ) → At list q r → started_by 0 0 actions r ≡ Some a → RefusedOver list q p
  refused_over {r = r} p (here {xs = xs}) s most i l e = rw (← l) (starts_over actions r xs i s ∙ ap (refused 8) (omega arith))
  refused_over p (there {y = b} {xs = list} {k = q} h) s most i l e = entry_refused b q p list (refused_over p h s) (started_by 0 0 actions b) refl most i l e

  pub starts_row : (most : ℕ) (list : List ℕ) (n p : ℕ) → (starts_at_most actions most 0 list ≡ refused n p) ↔ ((n ≡ 8) × Over actions most list p)
  starts_row most list n p = (
    λ h. let o = found_over list most 0 h in let q : o.1 ≡ p = omega (arith, o.2) in (o.0, rw q at o.3),
    λ c. rw c.0 (refused_over p c.1.entry c.1.starts most 0 c.1.before (omega arith)),
  )
