-- Laws of the loops over the standing bits of a partial state in place: the sum of its facts' numbers, and what is offered to its facts. What is
-- left of the map is m, from variable v on; its lowest standing bit is z variables further, and `above` is left above it.
use Rattle.std.specs.Prelude.{◌≡◌, refl, Bool, true, false, ℕ, zero, suc, ◌+◌, ◌*◌, ◌-◌, ◌/◌, ◌%◌, ◌≤◌, ◌<◌, List, [], length, get_or}
use Rattle.std.proofs.Math.Path.{sym, ap}
use Rattle.std.proofs.Common.{ap₂, ◌∙◌, subst, lt_of_not-le, add-one, arith}
use Rattle.std.proofs.Math.Decide.{dec_le}
use Rattle.std.specs.Int.Bits.{bit_and}
use Rattle.facts.specs.Bits.{Lowest}
use Rattle.facts.specs.BitsLaws.{skip, skip_cleared, first_even, first_odd, above_even, above_odd, cut_values, no_bits}
use Rattle.facts.specs.Partial.{Partial, rest, above, empty, standing_at}
use Rattle.estimate.specs.Number.{Number, exact, never, sum, lesser, WithinCap}
use Rattle.estimate.specs.NumberLaws.{sum_zero, sum_comm, lesser_never, lesser_assoc}
use Rattle.estimate.specs.Facts.{most_variables}
use Rattle.estimate.specs.Additive.{has_value, has, with_number, sum_from, Offer, offered_by}
use Rattle.estimate.specs.Ranks.{rank_number, Room, HasRanks, after_offer, offered_to, after_fact}

-- ---- the sum

-- no values, no sum
sum_no_values : (of : ℕ → ℕ → Number) (v k m : ℕ) → sum_from of v k (record { map = m; values = [] }) ≡ exact 0
sum_no_values of v zero m = refl
sum_no_values of v (suc k) m = go (m % 2) (sum_no_values of (suc v) k (m / 2))
  where
    go : (b : ℕ) → sum_from of (suc v) k (record { map = m / 2; values = [] }) ≡ exact 0
        → with_number of v b [] (sum_from of (suc v) k (record { map = m / 2; values = rest b [] })) ≡ exact 0
    go zero h = h
    go (suc b) h = h

pub sum_empty : (of : ℕ → ℕ → Number) (k : ℕ) {p : Partial} → p ≡ empty → sum_from of 0 k p ≡ exact 0
sum_empty of k e = ap (sum_from of 0 k) e ∙ sum_no_values of 0 k 0

module _ (of : ℕ → ℕ → Number) (f : List ℕ) (n : ℕ) where
  -- what is left to add
  abbrev Left : ℕ → ℕ → ℕ → Number
  Left m at v = sum_from of v (n - v) (standing_at f m at)

  left_past : (m at v : ℕ) → n ≤ v → Left m at v ≡ exact 0
  left_past m at v l = let k : n - v ≡ 0 = omega arith in ap (λ (k : ℕ). sum_from of v k (standing_at f m at)) k

  pub left_first : (m at v : ℕ) → v < n
      → Left m at v ≡ with_number of v ((standing_at f m at).map % 2) (standing_at f m at).values (sum_from of (suc v) (n - suc v) (above (standing_at f m at)))
  left_first m at v l = let k : n - v ≡ suc (n - suc v) = omega arith in ap (λ (k : ℕ). sum_from of v k (standing_at f m at)) k

  pub left_even : (at m v : ℕ) → Left (2 * m) at v ≡ Left m at (suc v)
  left_even at m v = elim (dec_le n v) [
    | yes past ↦ left_past (2 * m) at v past ∙ sym (left_past m at (suc v) (omega arith))
    | no low ↦
        let others = sum_from of (suc v) (n - suc v) (above (standing_at f (2 * m) at)) in
        left_first (2 * m) at v (lt_of_not-le low)
        ∙ first_even (λ b values. with_number of v b values others) f m at
        ∙ ap (sum_from of (suc v) (n - suc v)) (above_even f m at)
  ]

  module _ {m z a : ℕ} (e : Lowest m z a) (at v : ℕ) where
    pub left_skip : Left m at v ≡ Left (2 * a + 1) at (v + z)
    left_skip = ap (λ (m : ℕ). Left m at v) e.bits ∙ skip (λ m v. Left m at v) (left_even at) z (2 * a + 1) v

  left_cut : (m at v : ℕ) → length f ≤ at → Left m at v ≡ exact 0
  left_cut m at v l = ap (sum_from of v (n - v)) (cut_values f m at l) ∙ sum_no_values of v (n - v) m

  left_none : (m at v : ℕ) → m ≡ 0 → Left m at v ≡ exact 0
  left_none m at v e = ap (λ (m : ℕ). Left m at v) e ∙ ap (sum_from of v (n - v)) (no_bits f at) ∙ sum_no_values of v (n - v) 0

  -- that from the first variable on
  abbrev All : ℕ → ℕ → Number
  All m at = sum_from of 0 n (standing_at f m at)

  pub all_left : (m at : ℕ) → All m at ≡ Left m at 0
  all_left m at = let k : n ≡ n - 0 = omega arith in ap (λ (k : ℕ). sum_from of 0 k (standing_at f m at)) k

-- the whole is the total so far and what is left to add
pub record Summing (of : ℕ → ℕ → Number) (f : List ℕ) (n m at : ℕ) (whole total : Number) : Type 0 where
  pub within : WithinCap total
  pub same : whole ≡ sum total (sum_from of 0 n (standing_at f m at))

module _ {of : ℕ → ℕ → Number} {f : List ℕ} {n m at : ℕ} {whole total : Number} (g : Summing of f n m at whole total) where
  summing_end : sum_from of 0 n (standing_at f m at) ≡ exact 0 → total ≡ whole
  summing_end e = sym (g.same ∙ ap (sum total) e ∙ sum_comm total (exact 0) ∙ sum_zero total g.within)

  -- no bit is left
  pub summing_none : m ≡ 0 → total ≡ whole
  summing_none e = summing_end (all_left of f n m at ∙ left_none of f n m at 0 e)

  -- the file ends
  pub summing_cut : length f ≤ at → total ≡ whole
  summing_cut l = summing_end (all_left of f n m at ∙ left_cut of f n m at 0 l)

  -- the total is never, and stays so
  pub summing_never : total ≡ never → total ≡ whole
  summing_never e = e ∙ sym (g.same ∙ ap (λ a. sum a (sum_from of 0 n (standing_at f m at))) e)

  module _ {z a : ℕ} (e : Lowest m z a) where
    -- the next bit is past the variables
    pub summing_past : n ≤ z → total ≡ whole
    summing_past l = summing_end (all_left of f n m at ∙ left_skip of f n e at 0 ∙ left_past of f n (2 * a + 1) at (0 + z) (omega arith))

-- ---- what is offered

module _ (offer : Number) where
  -- what is offered to the facts of p, of which the first variable has the number u
  abbrev offered_from : ℕ → Partial → ℕ → ℕ → Number
  offered_from zero p v d = offered_by (record { effect = p; number = offer }) v d
  offered_from (suc u) p zero d = never
  offered_from (suc u) p (suc v) d = offered_from u p v d

  -- nothing to the variables before
  from_before : (u : ℕ) (p : Partial) (v d : ℕ) → v < u → offered_from u p v d ≡ never
  from_before zero p v d l = absurd (omega arith)
  from_before (suc u) p zero d l = refl
  from_before (suc u) p (suc v) d l = from_before u p v d (omega arith)

  -- what is offered by a bit and the values
  abbrev offered_value : ℕ → ℕ → List ℕ → Number
  offered_value d b values = elim (has_value b values d) [ true ↦ offer | false ↦ never ]

  -- the first variable has no fact
  from_skip : (u : ℕ) (p : Partial) (v d : ℕ) → offered_value d (p.map % 2) p.values ≡ never → offered_from u p v d ≡ offered_from (suc u) (above p) v d
  from_skip zero p zero d e = e
  from_skip zero p (suc v) d e = refl
  from_skip (suc u) p zero d e = refl
  from_skip (suc u) p (suc v) d e = from_skip u p v d e

  -- the first variable has the value x
  from_first : (u x : ℕ) (p : Partial) (v d : ℕ) → offered_value d (p.map % 2) p.values ≡ offered_to offer 0 x 0 d
      → offered_from u p v d ≡ lesser (offered_to offer u x v d) (offered_from (suc u) (above p) v d)
  from_first zero x p zero d e = e ∙ sym (lesser_never (offered_to offer 0 x 0 d))
  from_first zero x p (suc v) d e = refl
  from_first (suc u) x p zero d e = refl
  from_first (suc u) x p (suc v) d e = from_first u x p v d e

  -- no values, no offers
  offered_no_values : (m v d : ℕ) → offered_from 0 (record { map = m; values = [] }) v d ≡ never
  offered_no_values m zero d = go (m % 2)
    where
      go : (b : ℕ) → offered_value d b [] ≡ never
      go zero = refl
      go (suc b) = refl
  offered_no_values m (suc v) d = go (m % 2) (offered_no_values (m / 2) v d)
    where
      go : (b : ℕ) → offered_from 0 (record { map = m / 2; values = [] }) v d ≡ never → offered_from 0 (record { map = m / 2; values = rest b [] }) v d ≡ never
      go zero h = h
      go (suc b) h = h

  from_no_values : (u m v d : ℕ) → offered_from u (record { map = m; values = [] }) v d ≡ never
  from_no_values zero m v d = offered_no_values m v d
  from_no_values (suc u) m zero d = refl
  from_no_values (suc u) m (suc v) d = from_no_values u m v d

  module _ (f : List ℕ) (v d : ℕ) where
    -- what is left to offer
    abbrev Offered : ℕ → ℕ → ℕ → Number
    Offered m at u = offered_from u (standing_at f m at) v d

    offered_even : (at m u : ℕ) → Offered (2 * m) at u ≡ Offered m at (suc u)
    offered_even at m u =
        from_skip u (standing_at f (2 * m) at) v d (first_even (offered_value d) f m at)
        ∙ ap (λ (p : Partial). offered_from (suc u) p v d) (above_even f m at)

    module _ {m z a : ℕ} (e : Lowest m z a) (at u : ℕ) where
      offered_skip : Offered m at u ≡ Offered (2 * a + 1) at (u + z)
      offered_skip = ap (λ (m : ℕ). Offered m at u) e.bits ∙ skip (λ m u. Offered m at u) (offered_even at) z (2 * a + 1) u

      offered_next : at < length f → Offered m at u ≡ lesser (offered_to offer (u + z) (get_or f at 0) v d) (Offered a (at + 1) (u + z + 1))
      offered_next h =
          offered_skip
          ∙ from_first (u + z) (get_or f at 0) (standing_at f (2 * a + 1) at) v d (first_odd (offered_value d) f a at h)
          ∙ ap₂ (λ (p : Partial) (w : ℕ). lesser (offered_to offer (u + z) (get_or f at 0) v d) (offered_from w p v d)) (above_odd f a at h) (sym (add-one (u + z)))

    offered_first : {m z a : ℕ} → Lowest m z a → (at : ℕ) → at < length f
        → Offered m at 0 ≡ lesser (offered_to offer z (get_or f at 0) v d) (Offered (bit_and m (m - 1)) (at + 1) 0)
    offered_first {m} {z} e at h =
        let here : 0 + z ≡ z = omega arith in
        offered_next e at 0 h
        ∙ ap₂ (λ (u : ℕ) (others : Number). lesser (offered_to offer u (get_or f at 0) v d) others) here (sym (skip_cleared (λ m u. Offered m (at + 1) u) (offered_even (at + 1)) e))

    offered_cut : (m at u : ℕ) → length f ≤ at → Offered m at u ≡ never
    offered_cut m at u l = ap (λ (p : Partial). offered_from u p v d) (cut_values f m at l) ∙ from_no_values u m v d

    offered_none : (m at u : ℕ) → m ≡ 0 → Offered m at u ≡ never
    offered_none m at u e = ap (λ (m : ℕ). Offered m at u) e ∙ ap (λ (p : Partial). offered_from u p v d) (no_bits f at) ∙ from_no_values u 0 v d

-- what is left to offer to the numbers of these ranks makes the whole
pub record Offering (offer : Number) (f : List ℕ) (m at : ℕ) (whole : ℕ → ℕ → Number) (ranks : List ℕ) : Type 0 where
  pub left : (v d : ℕ) → Room (length ranks) v d → lesser (rank_number ranks v d) (offered_from offer 0 (standing_at f m at) v d) ≡ whole v d

pub offering_start : (offer : Number) (f : List ℕ) (m at : ℕ) (ranks : List ℕ) → Offering offer f m at (after_offer (record { effect = standing_at f m at; number = offer }) (rank_number ranks)) ranks
unfolding after_offer
offering_start offer f m at ranks = record { left = λ v d r. refl }

module _ {offer : Number} {f : List ℕ} {m at : ℕ} {whole : ℕ → ℕ → Number} {ranks : List ℕ} (g : Offering offer f m at whole ranks) where
  offering_end : ((v d : ℕ) → Room (length ranks) v d → offered_from offer 0 (standing_at f m at) v d ≡ never) → HasRanks ranks whole
  offering_end e = record { at = λ v d r. sym (lesser_never (rank_number ranks v d)) ∙ sym (ap (lesser (rank_number ranks v d)) (e v d r)) ∙ g.left v d r }

  -- no bit is left
  pub offering_none : m ≡ 0 → HasRanks ranks whole
  offering_none e = offering_end (λ v d r. offered_none offer f v d m at 0 e)

  -- the file ends
  pub offering_cut : length f ≤ at → HasRanks ranks whole
  offering_cut l = offering_end (λ v d r. offered_cut offer f v d m at 0 l)

  module _ {z a : ℕ} (e : Lowest m z a) where
    -- there is no room for the variable of the next bit
    pub offering_past : most_variables ≤ z → HasRanks ranks whole
    offering_past l =
        offering_end (λ v d r. offered_skip offer f v d e at 0 ∙ from_before offer (0 + z) (standing_at f (2 * a + 1) at) v d (omega (arith, r.variable)))

    -- the next fact has the offer
    pub offering_more : {next : List ℕ} → at < length f → length next ≡ length ranks → HasRanks next (after_fact offer z (get_or f at 0) (rank_number ranks))
        → Offering offer f (bit_and m (m - 1)) (at + 1) whole next
    unfolding after_fact
    offering_more {next} h same lowered =
        record {
          left = λ v d r.
              let later = offered_from offer 0 (standing_at f (bit_and m (m - 1)) (at + 1)) v d in
              ap (λ b. lesser b later) (lowered.at v d r)
              ∙ lesser_assoc (rank_number ranks v d) (offered_to offer z (get_or f at 0) v d) later
              ∙ sym (ap (lesser (rank_number ranks v d)) (offered_first offer f v d e at h))
              ∙ g.left v d (record { variable = r.variable; value = r.value; place = omega (arith, r.place) });
        }

-- no facts, no offers
pub offer_empty : (offer : Number) (ranks : List ℕ) {p : Partial} → p ≡ empty → HasRanks ranks (after_offer (record { effect = p; number = offer }) (rank_number ranks))
unfolding after_offer
offer_empty offer ranks e =
    record { at = λ v d r. sym (ap (lesser (rank_number ranks v d)) (ap (λ (p : Partial). offered_from offer 0 p v d) e ∙ offered_no_values offer 0 v d) ∙ lesser_never (rank_number ranks v d)) }

-- an offer of never changes nothing
pub offer_never : (o : Offer) (ranks : List ℕ) → o.number ≡ never → HasRanks ranks (after_offer o (rank_number ranks))
unfolding after_offer
offer_never o ranks e = record { at = λ v d r. sym (ap (lesser (rank_number ranks v d)) (go (has o.effect v d)) ∙ lesser_never (rank_number ranks v d)) }
  where
    go : (b : Bool) → elim b as (λ b. Number) [ true ↦ o.number | false ↦ never ] ≡ never
    go true = e
    go false = refl

-- an offer as it stands
pub offer_same : {o other : Offer} (of : ℕ → ℕ → Number) {ranks : List ℕ} → other.effect ≡ o.effect → other.number ≡ o.number → HasRanks ranks (after_offer o of) → HasRanks ranks (after_offer other of)
offer_same {o} {other} of {ranks} e n h =
    subst (λ (p : Partial). HasRanks ranks (after_offer (record { effect = p; number = other.number }) of)) (sym e)
    (subst (λ (a : Number). HasRanks ranks (after_offer (record { effect = o.effect; number = a }) of)) (sym n) h)
