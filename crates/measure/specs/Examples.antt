-- Document 01's P measured, computed: list 0 has the sum 8, passes one node, and "expands to 0,1,3".
use Rattle.std.specs.Prelude.{◌≡◌, refl, [], ◌∷◌}
use Rattle.facts.specs.Read.{accepted, refused}
use Rattle.taskfile.specs.Examples.{P_bytes, answering}
use Rattle.plans.specs.Carry.{expand}
use Rattle.carry.specs.CarryFile.{expanded}
use Rattle.measure.specs.Measure.{measured}

P_measured : measured P_bytes (0 ∷ []) ≡ accepted (record { cost = 8; passed = 1 }, 3)
unfolding answering expanded expand measured
P_measured = refl

-- A list that is no plan.
P_not_measured : measured P_bytes [] ≡ refused 10 0
unfolding answering expanded expand measured
P_not_measured = refl
