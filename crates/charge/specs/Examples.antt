-- Document 02's figures, computed: "Sums 0, 1, 1,000 and 1,001 give 150, 162, 162 and 174; 20,000 and 20,001 give 390 and 399; 100,000 and 100,001 give 1,110 and 1,115."
use Rattle.std.specs.Prelude.{◌≡◌, refl, [], ◌∷◌, map}
use Rattle.charge.specs.Charge.{rate_of, charge_of}

figures : map charge_of (0 ∷ 1 ∷ 1000 ∷ 1001 ∷ 20000 ∷ 20001 ∷ 100000 ∷ 100001 ∷ []) ≡ 150 ∷ 162 ∷ 162 ∷ 174 ∷ 390 ∷ 399 ∷ 1110 ∷ 1115 ∷ []
unfolding rate_of charge_of
figures = refl
