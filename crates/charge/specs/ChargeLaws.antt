-- Laws of the charge: which thousands are started, and what the closed form is. That the charge has it, and what follows, is in proofs/ChargeLaws.antt.
use Rattle.std.specs.Prelude.{ℕ, ◌+◌, ◌*◌, ◌<◌, min, ◌≡◌, refl, ◌↔◌}
use Rattle.std.proofs.Common.{arith}
use Rattle.charge.specs.Charge.{started_of, tariff, charge_of}

-- A thousand of a sum, counted from 0, is started exactly if the sum is above all thousands before it.
pub started_exactly : (sum k : ℕ) → (k < started_of sum) ↔ (k * 1000 < sum)
started_exactly sum k = (λ h. omega arith, λ h. omega arith)

-- ---- the closed form: 5 for every started thousand, 4 more for each of the first 100, 3 more still for each of the first 20

abbrev pub closed_form : ℕ → ℕ
closed_form n = 150 + 5 * n + 4 * min n 100 + 3 * min n 20

pub charge_tariff : (sum : ℕ) → charge_of sum ≡ tariff (started_of sum)
unfolding charge_of
charge_tariff sum = refl
