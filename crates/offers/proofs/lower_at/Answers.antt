-- `offers::lower_at` meets its contract: no facts where the file ends inside the map, and else those of the map.
use mathlib.Core.Path.{◌≡◌, refl, sym}
use native.Mathlib.Omega.{arith}
use Rattle.facts.specs.Read.{accepted}
use Rattle.facts.specs.Fields.{read_number}
use Rattle.facts.specs.FieldLaws.{number_read}
use Rattle.facts.specs.InPlaceLaws.{standing_read, empty_read}
use Rattle.estimate.specs.OfferLaws.{offer_empty, offer_same}
use Rattle.offers.proofs.lower_at.Goals as goal
use Rattle.offers.proofs.lower_at.Goals.{In-Ok}

map_is : (c : goal.In-Ok) → read_number c.args.file.now 8 c.args.at ≡ accepted c.in-Ok.map
map_is c = sym c.in-Ok.ensures

pub overflow_add-at : goal.overflow_add-at
overflow_add-at c = omega (arith, (number_read _ 8 _ (map_is c)).fits)

pub inside-requires : goal.inside-requires
inside-requires c = (number_read _ 8 _ (map_is c)).fits

pub returns-then-inside-clause-has_ranks : goal.returns-then-inside-clause-has_ranks
returns-then-inside-clause-has_ranks c = let lowered = c.lower_inside.ensures in offer_same _ (standing_read _ _ (map_is (goal.at.returns-then-inside-clause-has_ranks c).In-Ok)) refl lowered.has_ranks

pub overflow_add-at-2 : goal.overflow_add-at-2
overflow_add-at-2 c = omega (arith, (number_read _ 8 _ (map_is (goal.at.overflow_add-at-2 c).In-Ok)).fits)

pub returns-in_default-clause-has_ranks : goal.returns-in_default-clause-has_ranks
returns-in_default-clause-has_ranks c = let a = c.args in offer_empty _ _ (empty_read a.file.now a.at (sym c.in_default.ensures))

pub returns-clause-has_ranks : goal.returns-clause-has_ranks
returns-clause-has_ranks c = let lowered = c.values_lowered.ensures in offer_same _ (standing_read _ _ (map_is (goal.at.returns-clause-has_ranks c).In-Ok)) refl lowered.has_ranks
