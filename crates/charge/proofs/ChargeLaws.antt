-- Laws of the charge: the closed form, and that a larger sum is charged no less.
use Rattle.std.specs.Prelude.{ℕ, zero, suc, ◌+◌, ◌≤◌, ◌<◌, ◌≡◌, refl, Bool, true, false, ltb}
use Rattle.std.proofs.Common.{◌∙◌, sym, ap, arith, ltb-true, ltb-false}
use Rattle.std.specs.Int.{div_ceil}
use Rattle.charge.specs.Charge.{started_of, rate_of, tariff, charge_of}
use Rattle.charge.specs.ChargeLaws.{closed_form, charge_tariff}

-- ---- the closed form: 5 for every started thousand, 4 more for each of the first 100, 3 more still for each of the first 20

-- a fact about one of two numbers, by a test
by_test : (good : ℕ → Type 0) (n k : ℕ) {a b : ℕ} → (n < k → good a) → (k ≤ n → good b) → good (elim (ltb n k) [ true ↦ a | false ↦ b ])
by_test good n k {a} {b} below beyond = go (ltb n k) refl
  where
    go : (t : Bool) → ltb n k ≡ t → good (elim t as (λ t. ℕ) [ true ↦ a | false ↦ b ])
    go true e = below (ltb-true n k e)
    go false e = beyond (ltb-false n k e)

closed_next : (n : ℕ) → closed_form n + rate_of n ≡ closed_form (suc n)
unfolding rate_of
closed_next n =
    let on : ℕ → Type 0 = λ rate. closed_form n + rate ≡ closed_form (suc n) in
    by_test on n _ (λ l. omega arith) (λ l. by_test on n _ (λ m. omega arith) (λ m. omega arith))

pub tariff_closed : (n : ℕ) → tariff n ≡ closed_form n
tariff_closed zero = refl
tariff_closed (suc n) = omega (arith, tariff_closed n, closed_next n)

pub charge_closed : (sum : ℕ) → charge_of sum ≡ closed_form (started_of sum)
charge_closed sum = charge_tariff sum ∙ tariff_closed (started_of sum)

-- ---- larger sums

-- A larger sum is charged no less.
pub charge_monotone : (a b : ℕ) → a ≤ b → charge_of a ≤ charge_of b
charge_monotone a b h =
    let started : started_of a ≤ started_of b = omega arith in
    omega (arith, charge_closed a, charge_closed b, started)

-- "every sum up to 4,294,967,295 has one", and none is above that for the largest; first as the code has it, by the tariff.
pub tariff_most : (sum : ℕ) {paid : ℕ} → sum ≤ 4294967295 → paid ≡ tariff (started_of sum) → paid ≤ 21475450
tariff_most sum l e = omega (arith, e, tariff_closed (started_of sum))

pub charge_most : (sum : ℕ) → sum ≤ 4294967295 → charge_of sum ≤ 21475450
charge_most sum l = tariff_most sum l (charge_tariff sum)

-- ---- as the code has it: the started thousands by a division that rounds up

started_ceil : (sum : ℕ) → div_ceil sum 1000 ≡ started_of sum
started_ceil sum = omega arith

pub paid_most : (started : ℕ) {paid : ℕ} → started ≤ 4294968 → paid ≡ tariff started → paid ≤ 21475450
paid_most started l e = omega (arith, e, tariff_closed started)

pub paid_charge : (sum started : ℕ) {paid : ℕ} → started ≡ div_ceil sum 1000 → paid ≡ tariff started → paid ≡ charge_of sum
paid_charge sum started s e = e ∙ ap tariff (s ∙ started_ceil sum) ∙ sym (charge_tariff sum)
