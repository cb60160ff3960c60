-- `offers::inside::rank_inside` meets its contract: where there is room for a variable, its values up to the last have it. Assumes nothing.
use mathlib.Core.Path.{sym}
use native.Mathlib.Omega.{arith}
use Rattle.estimate.specs.RanksLaws.{rank_at, rank_value}
use Rattle.offers.proofs.inside.rank_inside.Goals as goal

pub returns-then-d-ge-MAX_VALUES : goal.returns-then-d-ge-MAX_VALUES
returns-then-d-ge-MAX_VALUES c = sym (rank_value _ _ _ c.if-d-ge-MAX_VALUES.true)

pub returns : goal.returns
returns c = sym (rank_at _ _ _ 0 (record { variable = c.requires.0; value = omega (arith, c.if-d-ge-MAX_VALUES.false); place = omega (arith, c.requires.1, c.if-d-ge-MAX_VALUES.false) }))
