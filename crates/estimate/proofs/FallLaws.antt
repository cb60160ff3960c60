-- Why a number falls. What is made of the numbers of facts by sums and the lesser of two falls with them, and only because of a fact whose own
-- number has fallen, to no more than the result.
use Rattle.std.specs.Prelude.{Bool, true, false, ℕ, zero, suc, ◌%◌, List, [], ◌∷◌}
use Rattle.facts.specs.Lists.{All}
use Rattle.facts.specs.Partial.{Partial, above}
use Rattle.estimate.specs.Number.{Number, never, lesser, AtMost}
use Rattle.estimate.specs.Additive.{has, with_number, sum_from, offered_by, offered, Achiever, offer_of, offers_by}
use Rattle.estimate.specs.FallLaws.{Falls, falls_sum, falls_lesser, Supported, falls_number, unchanged}

-- ---- what a round makes of the numbers

module _ {new old : ℕ → ℕ → Number} (lower : (v d : ℕ) → AtMost (new v d) (old v d)) where
  -- the number of one variable's fact, where its bit stands, and a sum
  falls_with_number : (v b : ℕ) (values : List ℕ) {a c : Number} → Falls new old a c → Falls new old (with_number new v b values a) (with_number old v b values c)
  falls_with_number v zero values h = h
  falls_with_number v (suc b) [] h = h
  falls_with_number v (suc b) (x ∷ values) h = falls_sum (falls_number lower v x) h

  -- the sum of the numbers of a partial state's facts
  falls_sum_from : (v k : ℕ) (p : Partial) → Falls new old (sum_from new v k p) (sum_from old v k p)
  falls_sum_from v zero p = unchanged
  falls_sum_from v (suc k) p = falls_with_number v (p.map % 2) p.values (falls_sum_from (suc v) k (above p))

  -- what an achiever offers to a fact
  pub falls_offered_by : (n : ℕ) (a : Achiever) → Supported a.cost → (v d : ℕ)
      → Falls new old (offered_by (offer_of n new a) v d) (offered_by (offer_of n old a) v d)
  falls_offered_by n a s v d = go (has a.eff v d)
    where
      go : (b : Bool) → Falls new old (elim b as (λ b. Number) [ true ↦ (offer_of n new a).number | false ↦ never ]) (elim b as (λ b. Number) [ true ↦ (offer_of n old a).number | false ↦ never ])
      go true = falls_sum (falls_sum_from 0 n a.pre) (s.falls lower)
      go false = unchanged

  -- the least that several offer
  falls_offered : (n : ℕ) (achievers : List Achiever) → All (λ a. Supported a.cost) achievers → (v d : ℕ)
      → Falls new old (offered (offers_by n new achievers) v d) (offered (offers_by n old achievers) v d)
  falls_offered n [] h v d = unchanged
  falls_offered n (a ∷ achievers) h v d = falls_lesser (falls_offered_by n a h.0 v d) (falls_offered n achievers h.1 v d)

  -- the number of a fact after the offers of all achievers
  pub falls_after : (n : ℕ) (achievers : List Achiever) → All (λ a. Supported a.cost) achievers → (v d : ℕ)
      → Falls new old (lesser (new v d) (offered (offers_by n new achievers) v d)) (lesser (old v d) (offered (offers_by n old achievers) v d))
  falls_after n achievers h v d = falls_lesser (falls_number lower v d) (falls_offered n achievers h v d)
