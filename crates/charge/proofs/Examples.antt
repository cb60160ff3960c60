-- The charge for the largest sum, by the closed form.
use Rattle.std.specs.Prelude.{◌≡◌, refl}
use Rattle.std.proofs.Common.{◌∙◌}
use Rattle.charge.specs.Charge.{charge_of}
use Rattle.charge.proofs.ChargeLaws.{charge_closed}

-- The largest sum, by the closed form: it has more started thousands than are counted one by one.
largest : charge_of 4294967295 ≡ 21475450
largest = charge_closed 4294967295 ∙ refl
