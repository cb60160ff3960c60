-- The bench charge, in cents. Document 02, W13: "Shops bill a run by its sum, in cents. A plan costs 150. Each started 1,000 of the sum adds 12 for the first 20 thousands, 9 for the next 80, 5 beyond."
use Rattle.std.specs.Prelude.{ℕ, zero, suc, ◌+◌, ◌/◌, true, false, ltb}

-- how many thousands of a sum are started
abbrev pub started_of : ℕ → ℕ
started_of sum = (sum + 999) / 1000

-- what a started thousand adds, by the number of those before it: "12 for the first 20 thousands, 9 for the next 80, 5 beyond"
unfoldable pub rate_of : ℕ → ℕ
rate_of before = elim (ltb before 20) [ true ↦ 12 | false ↦ elim (ltb before 100) [ true ↦ 9 | false ↦ 5 ] ]

-- the charge for so many started thousands: "A plan costs 150", and each of them adds its rate
abbrev pub tariff : ℕ → ℕ
tariff zero = 150
tariff (suc n) = tariff n + rate_of n

-- the charge for a sum
unfoldable pub charge_of : ℕ → ℕ
charge_of sum = tariff (started_of sum)
