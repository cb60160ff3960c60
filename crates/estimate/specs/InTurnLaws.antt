-- Offers in turn come to the last numbers of document 01's rounds. The last numbers are closed: no achiever's offer by them is less. Offers are monotone, so numbers
-- at least the last ones stay so, whoever offers; and numbers at most those of the start that no offer lowers are at most those of every round.
use Rattle.std.specs.Prelude.{◌≡◌, refl, Bool, true, false, ◌||◌, ℕ, ◌<◌, List, [], ◌∷◌, length}
use Rattle.std.proofs.Common.{ap, ◌∙◌, subst}
use Rattle.std.proofs.Math.ListN.{get_or}
use Rattle.estimate.specs.Number.{Number, AtMost}
use Rattle.estimate.specs.Additive.{offered_by, Achiever, offer_of}
use Rattle.estimate.specs.Ranks.{rank_number, HasRanks, Fell}
use Rattle.estimate.specs.RanksLaws.{fell_none, fell_more}
use Rattle.estimate.specs.InTurn.{after_own, InTurn, nobody, first}

-- ---- the loop over achievers

-- those who are left to offer make the whole turn
pub record Turning (n : ℕ) (all left : List Achiever) (before ranks : List ℕ) (fell : Bool) : Type 0 where
  pub on : {later : List ℕ} {y : Bool} → InTurn n left ranks later y → InTurn n all before later (fell || y)

pub turning_start : {n : ℕ} {achievers : List Achiever} {ranks : List ℕ} → Turning n achievers achievers ranks ranks false
turning_start = record { on = λ t. t }

or_assoc : (x y z : Bool) → (x || (y || z)) ≡ ((x || y) || z)
or_assoc true y z = refl
or_assoc false y z = refl

or_false : (x : Bool) → (x || false) ≡ x
or_false true = refl
or_false false = refl

-- one more has offered
pub turning_more : {n : ℕ} {all left : List Achiever} {a : Achiever} {before ranks next : List ℕ} {x y fell : Bool} → Turning n all (a ∷ left) before ranks x
    → HasRanks next (after_own n a (rank_number ranks)) → Fell ranks next y → (x || y) ≡ fell → Turning n all left before next fell
turning_more {n} {all} {before = before} {x = x} {y} {fell} g h f is =
    record { on = λ {later} {y = z} t. subst (InTurn n all before later) (or_assoc x y z ∙ ap (λ b. b || z) is) (g.on (first h f t refl)) }

-- all have offered
pub turning_end : {n : ℕ} {all : List Achiever} {before ranks : List ℕ} {fell : Bool} → Turning n all [] before ranks fell → InTurn n all before ranks fell
turning_end {n} {all} {before} {ranks} {fell} g = subst (InTurn n all before ranks) (or_false fell) (g.on nobody)

-- ---- ranks in a turn

-- they fell, or are what they were
pub turn_fell : {n : ℕ} {achievers : List Achiever} {ranks later : List ℕ} {fell : Bool} → InTurn n achievers ranks later fell → Fell ranks later fell
turn_fell (nobody {ranks = ranks}) = fell_none ranks
turn_fell (first h f t is) = fell_more f (turn_fell t) is

-- ---- closed numbers

-- no offer of an achiever by these numbers is less, for a fact of the file
pub record Closed (sizes : List ℕ) (of : ℕ → ℕ → Number) (a : Achiever) : Type 0 where
  pub at : (v d : ℕ) → d < get_or sizes v 0 → AtMost (of v d) (offered_by (offer_of (length sizes) of a) v d)
