-- Laws of the additive heuristic: a round for each fact, rounds until one changes nothing, the state's own facts, and the ways in which the
-- operation can go.
use Rattle.std.specs.Prelude.{ℕ, length}
use Rattle.std.proofs.Common.{◌∙◌}
use mathlib.Core.List.{List}
use Rattle.facts.specs.Partial.{Partial}
use Rattle.estimate.specs.Number.{Number, WithinCap}
use Rattle.estimate.specs.RoundsLaws.{settled_on}
use Rattle.estimate.specs.Additive.{fact_number, Achiever, additive_round, last_numbers, additive}
use Rattle.estimate.proofs.ListedLaws.{sum_from_within}
use Rattle.estimate.specs.AdditiveLaws.{round_length, additive_lowering, Settling}

-- ---- rounds until one changes nothing

module _ {sizes : List ℕ} {achievers : List Achiever} {s : List ℕ} {numbers : List Number} (g : Settling sizes achievers s numbers) where
  -- one round more
  pub settling_on : Settling sizes achievers s (additive_round sizes achievers numbers)
  settling_on =
      record {
        count = round_length sizes achievers numbers ∙ g.count;
        within = (additive_lowering sizes achievers).within numbers g.within;
        same = g.same ∙ settled_on (additive_lowering sizes achievers) numbers g.within;
      }

-- ---- the answer

-- it is within the cap
pub additive_within : (sizes : List ℕ) (achievers : List Achiever) (goal : Partial) (s : List ℕ) → WithinCap (additive sizes achievers goal s)
unfolding additive
additive_within sizes achievers goal s = sum_from_within (fact_number sizes (last_numbers sizes achievers s)) 0 (length sizes) goal
