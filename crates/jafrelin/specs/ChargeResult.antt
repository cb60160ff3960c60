-- The result of the C function for the charge: unpacked, it is the charge, for every sum that the function can be handed, as `results` says it of the operations on files.
use Rattle.std.specs.Prelude.{ℕ, ◌≤◌, ◌≡◌}
use Rattle.std.proofs.Common.{ap, arith}
use Rattle.facts.specs.Read.{accepted}
use Rattle.charge.specs.Charge.{charge_of}
use Rattle.charge.proofs.ChargeLaws.{charge_most}
use Rattle.packing.specs.Packing.{packed_sum, unpacked, unpacked_sum}
use Rattle.packing.proofs.PackingLaws.{refusal_of_lem, sum_of_lem}

pub charge_result : (sum : ℕ) → sum ≤ 4294967295 → unpacked_sum (packed_sum (accepted (charge_of sum))) ≡ accepted (charge_of sum)
charge_result sum l =
    let cents = charge_of sum in
    rw (refusal_of_lem 0 0 cents, unpacked) (ap accepted (sum_of_lem 0 0 cents (omega (arith, charge_most sum l))))
