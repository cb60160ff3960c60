-- Numbers lent as ranks: what a list of ranks says about the facts of a file.
use Rattle.std.specs.Prelude.{◌≡◌, ℕ, zero, suc, ◌+◌, ◌*◌, ◌^◌, ◌≤◌, ◌<◌, Bool, true, false, ◌&&◌, List, ltb, eqb, length, get_or}
use Rattle.std.specs.Int.Count.{ones}
use Rattle.facts.specs.Lists.{total}
use Rattle.facts.specs.Partial.{Alike}
use Rattle.estimate.specs.Number.{Number, never, lesser, rank, ranked}
use Rattle.estimate.specs.Facts.{most_variables, most_values, fact_index, start_number}
use Rattle.estimate.specs.Additive.{Offer, offered_by}

-- the number of the fact that variable v has the value d; never, where a list of ranks has none for it
unfoldable pub rank_number : List ℕ → ℕ → ℕ → Number
rank_number ranks v d = elim (ltb v most_variables && ltb d most_values) [ true ↦ ranked (get_or ranks (fact_index v d) (rank never)) | false ↦ never ]

-- so many ranks have room for the fact that variable v has the value d
pub record Room (count v d : ℕ) : Type 0 where
  pub variable : v < most_variables
  pub value : d < most_values
  pub place : fact_index v d < count

-- so many ranks have room for all facts of a file
pub record Roomy (sizes : List ℕ) (count : ℕ) : Type 0 where
  pub room : (v d : ℕ) → d < get_or sizes v 0 → Room count v d

-- the values for a map that start at `from` lie inside the file, and so many ranks have room for all facts of the map's variables, which are among the first `few`
pub record Inside (f : List ℕ) (from map count : ℕ) : Type 0 where
  pub few : ℕ
  pub bits : map < 2 ^ few
  pub variables : few ≤ most_variables
  pub room : few * most_values ≤ count
  pub values : from + ones map ≤ length f

-- the ranks are of the number `of v d` for the fact that variable v has the value d
pub record HasRanks (ranks : List ℕ) (of : ℕ → ℕ → Number) : Type 0 where
  pub at : (v d : ℕ) → Room (length ranks) v d → rank_number ranks v d ≡ of v d

-- no fact has a number yet
pub record Fresh (ranks : List ℕ) : Type 0 where
  pub at : (v d : ℕ) → rank_number ranks v d ≡ never

-- numbers lowered to those with which the estimate from a state starts
unfoldable pub started_over : (ℕ → ℕ → Number) → List ℕ → ℕ → ℕ → Number
started_over of s v d = lesser (of v d) (start_number s v d)

-- some ranks have been lowered, or none has been changed: `fell` tells which
pub record Fell (before now : List ℕ) (fell : Bool) : Type 0 where
  pub count : length now ≡ length before
  pub same : fell ≡ false → now ≡ before
  pub less : fell ≡ true → total (λ r. r) now < total (λ r. r) before

-- where the partial state ends whose facts have a sum of this rank: where the same stands as at `past`, if the sum is not never; not far past the file in any case
pub record SumEnds (f : List ℕ) (past rankOfSum end : ℕ) : Type 0 where
  pub there : rankOfSum < rank never → Alike f end past
  pub near : end ≤ length f + 64

-- ---- what is offered

-- the numbers after an offer
unfoldable pub after_offer : Offer → (ℕ → ℕ → Number) → ℕ → ℕ → Number
after_offer o of v d = lesser (of v d) (offered_by o v d)

-- what a number that is offered to variable u with the value x is to variable v with the value d
abbrev pub offered_to : Number → ℕ → ℕ → ℕ → ℕ → Number
offered_to offer zero x zero d = elim (eqb x d) [ true ↦ offer | false ↦ never ]
offered_to offer zero x (suc v) d = never
offered_to offer (suc u) x zero d = never
offered_to offer (suc u) x (suc v) d = offered_to offer u x v d

-- the numbers after it is offered
unfoldable pub after_fact : Number → ℕ → ℕ → (ℕ → ℕ → Number) → ℕ → ℕ → Number
after_fact offer u x of v d = lesser (of v d) (offered_to offer u x v d)
