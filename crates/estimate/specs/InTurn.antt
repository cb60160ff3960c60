-- Offers in turn: each achiever offers by the numbers as they are then. Document 01's rounds use old numbers alone; the laws say that both come to the
-- same last numbers.
use Rattle.std.specs.Prelude.{◌≡◌, ℕ, ◌<◌, Bool, false, ◌||◌, List, [], ◌∷◌, get_or}
use Rattle.estimate.specs.Number.{Number, AtMost}
use Rattle.estimate.specs.Facts.{start_number}
use Rattle.estimate.specs.Additive.{fact_number, Achiever, offer_of, last_numbers}
use Rattle.estimate.specs.Ranks.{rank_number, HasRanks, Fell, after_offer}

-- the numbers after the offer of an achiever by themselves, for n variables
abbrev pub after_own : ℕ → Achiever → (ℕ → ℕ → Number) → ℕ → ℕ → Number
after_own n a of = after_offer (offer_of n of a) of

-- achievers have offered in turn, from ranks to later ones; `fell` tells whether a rank fell
pub data InTurn (n : ℕ) : List Achiever → List ℕ → List ℕ → Bool → Type 0 where
  nobody : {ranks : List ℕ} → InTurn n [] ranks ranks false
  first : {a : Achiever} {achievers : List Achiever} {ranks mid later : List ℕ} {x y fell : Bool} → HasRanks mid (after_own n a (rank_number ranks)) → Fell ranks mid x
      → InTurn n achievers mid later y → (x || y) ≡ fell → InTurn n (a ∷ achievers) ranks later fell

-- numbers of facts of the file, each at most another
pub record Below (sizes : List ℕ) (new old : ℕ → ℕ → Number) : Type 0 where
  pub at : (v d : ℕ) → d < get_or sizes v 0 → AtMost (new v d) (old v d)

-- the number of a fact after the last round
abbrev pub last_number : List ℕ → List Achiever → List ℕ → ℕ → ℕ → Number
last_number sizes achievers s = fact_number sizes (last_numbers sizes achievers s)

-- numbers on the way from the start to the last round
pub record Nearing (sizes : List ℕ) (achievers : List Achiever) (s : List ℕ) (of : ℕ → ℕ → Number) : Type 0 where
  pub above_last : Below sizes (last_number sizes achievers s) of
  pub below_start : Below sizes of (start_number s)
