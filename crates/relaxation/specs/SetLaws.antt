-- Document 01's "bit d for value d", as a law: a value is in a set of a relaxed state exactly if its bit stands.
use Rattle.std.specs.Prelude.{◌≡◌, refl, ◌↔◌, ℕ, zero, suc, ◌+◌, ◌/◌, ◌%◌, ◌<◌, List}
use Rattle.std.proofs.Common.{sym, ap, ◌∙◌, arith}
use Rattle.facts.specs.Lists.{At, here, there}
use Rattle.facts.specs.ListLaws.{at_none}
use Rattle.value.specs.Value.{bit_of}
use Rattle.value.specs.ValueLaws.{halved}
use Rattle.taskfile.specs.Task.{max_values}
use Rattle.relaxation.specs.Relaxed.{values_from, values_in}
use Rattle.relaxation.specs.RelaxedLaws.{with_bit}
use Rattle.relaxation.specs.PassingLaws.{In, further}

-- a bit above the lowest, in half of the set
half_bit : (d set : ℕ) → bit_of (set / 2) d ≡ bit_of set (suc d)
half_bit d set = ap (λ (n : ℕ). n % 2) (halved set d)

-- where the lowest bit is for value `low`, a value is in exactly if it is `low + q` for a bit q that stands, of n
abbrev Stands : ℕ → ℕ → ℕ → ℕ → Type 0
Stands n low set v = (q : ℕ) × (v ≡ low + q) × (q < n) × (bit_of set q ≡ 1)

module _ (n low set : ℕ) where
  -- the values above the lowest
  abbrev more : List ℕ
  more = values_from n (suc low) (set / 2)

  -- by the lowest bit, and what holds of the others
  lowest_stands : {v : ℕ} (b : ℕ) → set % 2 ≡ b → ((k : ℕ) → At more k v → Stands n (suc low) (set / 2) v) → (k : ℕ) → At (with_bit b low more) k v → Stands (suc n) low set v
  lowest_stands zero e on k h = let o = on k h in (suc o.0, omega (arith, o.1), omega (arith, o.2), sym (half_bit o.0 set) ∙ o.3)
  lowest_stands (suc b) e on _ here = (0, omega arith, omega arith, omega arith)
  lowest_stands (suc b) e on _ (there {k = k} h) = let o = on k h in (suc o.0, omega (arith, o.1), omega (arith, o.2), sym (half_bit o.0 set) ∙ o.3)

  lowest_is_in : {v : ℕ} (b : ℕ) → set % 2 ≡ b → (q : ℕ) → v ≡ low + q → bit_of set q ≡ 1 → ((r : ℕ) → q ≡ suc r → In more v) → In (with_bit b low more) v
  lowest_is_in zero e zero p one on = absurd (omega arith)
  lowest_is_in {v} (suc b) e zero p one on = let same : low ≡ v = omega arith in (0, rw (← same) here)
  lowest_is_in zero e (suc r) p one on = on r refl
  lowest_is_in (suc b) e (suc r) p one on = let o = on r refl in further o

stands : (n low set : ℕ) {v : ℕ} (k : ℕ) → At (values_from n low set) k v → Stands n low set v
stands zero low set k h = absurd (at_none h)
stands (suc n) low set k h = lowest_stands n low set (set % 2) refl (stands n (suc low) (set / 2)) k h

is_in : (n low set : ℕ) {v : ℕ} (q : ℕ) → v ≡ low + q → q < n → bit_of set q ≡ 1 → In (values_from n low set) v
is_in zero low set q p l one = absurd (omega arith)
is_in (suc n) low set q p l one =
    lowest_is_in n low set (set % 2) refl q p one (λ r e. is_in n (suc low) (set / 2) r (omega arith) (omega arith) (half_bit r set ∙ ap (bit_of set) (sym e) ∙ one))

-- "bit d for value d": d is among the values of a set exactly if bit d stands, of the eight that are looked at.
pub value_stands : (set d : ℕ) → In (values_in set) d ↔ ((d < max_values) × (bit_of set d ≡ 1))
value_stands set d = (
  λ h.
      let o = stands max_values 0 set h.0 h.1 in
      let same : o.0 ≡ d = omega (arith, o.1) in
      (omega (arith, o.2), ap (bit_of set) (sym same) ∙ o.3),
  λ c. is_in max_values 0 set d (omega arith) c.0 c.1,
)
