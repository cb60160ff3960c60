-- Offers in turn come to the last numbers of document 01's rounds. The last numbers are closed: no achiever's offer by them is less. Offers are monotone, so numbers
-- at least the last ones stay so, whoever offers; and numbers at most those of the start that no offer lowers are at most those of every round.
use Rattle.std.specs.Prelude.{◌≡◌, refl, Bool, true, false, ◌||◌, ℕ, ◌<◌, List, [], ◌∷◌, length}
use Rattle.std.proofs.Math.Path.{sym}
use Rattle.std.proofs.Common.{ap, ap₂, ◌∙◌, subst, true≢false, lt_of_not-le}
use Rattle.std.proofs.Math.Decide.{dec_le}
use Rattle.std.proofs.Math.ListN.{get_or}
use Rattle.facts.specs.Lists.{All}
use Rattle.facts.specs.Partial.{Partial}
use Rattle.facts.specs.WellFormed.{WfPartial}
use Rattle.estimate.specs.declared.Est.{Est}
use Rattle.estimate.specs.Number.{Number, never, sum, lesser, AtMost}
use Rattle.estimate.specs.NumberLaws.{lesser_comm, at_most_refl, at_most_trans, at_most_antisym, lesser_at_most, lesser_least}
use Rattle.estimate.specs.Facts.{number_in, HasFacts, start_number}
use Rattle.estimate.specs.Rounds.{Leads, stay, go_on}
use Rattle.estimate.specs.RoundsLaws.{settled_leads, settled_fixed}
use Rattle.estimate.specs.Additive.{fact_count, listed, fact_number, sum_from, Offer, offered_by, offered, Achiever, offer_of, offers_by, WfAchiever, additive_round, start_numbers, last_numbers, additive}
use Rattle.estimate.specs.ListedLaws.{fact_none, fact_listed}
use Rattle.estimate.proofs.ListedLaws.{facts_sum_same}
use Rattle.estimate.specs.AdditiveLaws.{round_length, round_at, additive_lowering, settling_start, additive_sum}
use Rattle.estimate.specs.FallLaws.{Supported, falls_at_most}
use Rattle.estimate.proofs.FallLaws.{falls_offered_by}
use Rattle.estimate.specs.Ranks.{rank_number, Roomy, HasRanks, Fell, after_offer}
use Rattle.estimate.specs.InTurn.{after_own, InTurn, nobody, first, Below, last_number, Nearing}
use Rattle.estimate.specs.InTurnLaws.{turn_fell, Closed}

-- ---- the loop over achievers

or_left : (x y : Bool) → (x || y) ≡ false → x ≡ false
or_left true y e = e
or_left false y e = refl

or_right : (x y : Bool) → (x || y) ≡ false → y ≡ false
or_right true y e = absurd (true≢false e)
or_right false y e = e

-- ---- offers are monotone

module _ (sizes : List ℕ) (n : ℕ) {new old : ℕ → ℕ → Number} (below : Below sizes new old) where
  -- numbers of the file's facts alone, never elsewhere
  abbrev in_file : (ℕ → ℕ → Number) → ℕ → ℕ → Number
  in_file of = fact_number sizes (listed sizes of)

  in_file_below : (v d : ℕ) → AtMost (in_file new v d) (in_file old v d)
  in_file_below v d = elim (dec_le (get_or sizes v 0) d) [
    | yes none ↦ rw (fact_none sizes (listed sizes new) v d none, fact_none sizes (listed sizes old) v d none) (at_most_refl never)
    | no low ↦ let l = lt_of_not-le low in rw (fact_listed sizes new v d l, fact_listed sizes old v d l) (below.at v d l)
  ]

  -- an offer by them is the same
  offer_in_file : {a : Achiever} → WfAchiever sizes a → (of : ℕ → ℕ → Number) (v d : ℕ) → offered_by (offer_of n (in_file of) a) v d ≡ offered_by (offer_of n of a) v d
  offer_in_file {a} wf of v d =
      ap (λ (x : Number). offered_by (record { effect = a.eff; number = x }) v d)
      (ap₂ sum (facts_sum_same wf.pre (in_file of) of (λ v d l. fact_listed sizes of v d l) n) (wf.cost (in_file of) of (λ v d l. fact_listed sizes of v d l)))

  offer_monotone : {a : Achiever} → WfAchiever sizes a → Supported a.cost → (v d : ℕ) → AtMost (offered_by (offer_of n new a) v d) (offered_by (offer_of n old a) v d)
  offer_monotone {a} wf s v d = rw (← offer_in_file wf new v d, ← offer_in_file wf old v d) (falls_at_most (falls_offered_by in_file_below n a s v d))

-- ---- closed numbers

-- the least that several offer is less than none of them, and is one of them or never
offered_each : (a : Number) (o : Offer) (offers : List Offer) (v d : ℕ) → AtMost a (offered (o ∷ offers) v d) → AtMost a (offered_by o v d) × AtMost a (offered offers v d)
offered_each a o offers v d h = (
  at_most_trans h (lesser_at_most (offered_by o v d) (offered offers v d)),
  at_most_trans h (rw (lesser_comm (offered_by o v d) (offered offers v d)) (lesser_at_most (offered offers v d) (offered_by o v d))),
)

module _ (sizes : List ℕ) where
  -- numbers that are at most the least of all offers are closed
  closed_each : (of : ℕ → ℕ → Number) (achievers : List Achiever) → ((v d : ℕ) → d < get_or sizes v 0 → AtMost (of v d) (offered (offers_by (length sizes) of achievers) v d))
      → All (Closed sizes of) achievers
  closed_each of [] h = tt
  closed_each of (a ∷ achievers) h =
      let n = length sizes in
      let each : (v d : ℕ) → d < get_or sizes v 0 → AtMost (of v d) (offered_by (offer_of n of a) v d) × AtMost (of v d) (offered (offers_by n of achievers) v d)
      = λ v d l. offered_each (of v d) (offer_of n of a) (offers_by n of achievers) v d (h v d l) in
      (record { at = λ v d l. (each v d l).0 }, closed_each of achievers (λ v d l. (each v d l).1))

  -- closed numbers that are at most others are at most what is offered by those
  closed_below : {of old : ℕ → ℕ → Number} → Below sizes of old → (achievers : List Achiever) → All (WfAchiever sizes) achievers → All (λ a. Supported a.cost) achievers
      → All (Closed sizes of) achievers → (v d : ℕ) → d < get_or sizes v 0 → AtMost (of v d) (offered (offers_by (length sizes) old achievers) v d)
  closed_below {of} below [] w s c v d l = record { is_lesser = lesser_comm (of v d) never }
  closed_below {of} {old} below (a ∷ achievers) w s c v d l =
      lesser_least (at_most_trans (c.0.at v d l) (offer_monotone sizes (length sizes) below w.0 s.0 v d)) (closed_below below achievers w.1 s.1 c.1 v d l)

module _ (sizes : List ℕ) (achievers : List Achiever) (s : List ℕ) where
  -- the last numbers: rounds have led to them, and one more changes nothing
  last_leads : Leads (additive_round sizes achievers) (start_numbers sizes s) (last_numbers sizes achievers s)
  unfolding last_numbers
  last_leads = settled_leads (additive_round sizes achievers) (start_numbers sizes s)

  last_fixed : additive_round sizes achievers (last_numbers sizes achievers s) ≡ last_numbers sizes achievers s
  unfolding last_numbers
  last_fixed = settled_fixed (additive_lowering sizes achievers) (start_numbers sizes s) (settling_start sizes achievers s).within

  leads_count : {numbers later : List Number} → Leads (additive_round sizes achievers) numbers later → length numbers ≡ fact_count sizes → length later ≡ fact_count sizes
  leads_count stay e = e
  leads_count (go_on {numbers = numbers} l) e = leads_count l (round_length sizes achievers numbers ∙ e)

  last_count : length (last_numbers sizes achievers s) ≡ fact_count sizes
  last_count = leads_count last_leads (settling_start sizes achievers s).count

  -- they are closed
  last_closed : All (Closed sizes (last_number sizes achievers s)) achievers
  last_closed =
      closed_each sizes (last_number sizes achievers s) achievers (λ v d l.
      let last = last_numbers sizes achievers s in
      let offers = offered (offers_by (length sizes) (last_number sizes achievers s) achievers) v d in
      let is : last_number sizes achievers s v d ≡ lesser (last_number sizes achievers s v d) offers
      = ap (λ (numbers : List Number). fact_number sizes numbers v d) (sym last_fixed) ∙ round_at sizes achievers last last_count v d l in
      record { is_lesser = sym is })

  module _ (wf : All (WfAchiever sizes) achievers) (supported : All (λ a. Supported a.cost) achievers) where
    -- closed numbers are at most those of every later round
    closed_leads : {of : ℕ → ℕ → Number} → All (Closed sizes of) achievers → {numbers later : List Number} → Leads (additive_round sizes achievers) numbers later
        → length numbers ≡ fact_count sizes → Below sizes of (fact_number sizes numbers) → Below sizes of (fact_number sizes later)
    closed_leads c stay e below = below
    closed_leads {of} c (go_on {numbers = numbers} l) e below =
        closed_leads c l (round_length sizes achievers numbers ∙ e)
        (record { at = λ v d f. rw (round_at sizes achievers numbers e v d f) (lesser_least (below.at v d f) (closed_below sizes below achievers wf supported c v d f)) })

    -- closed numbers on the way are the last ones
    pub closed_last : {of : ℕ → ℕ → Number} → Nearing sizes achievers s of → All (Closed sizes of) achievers → (v d : ℕ) → d < get_or sizes v 0 → of v d ≡ last_number sizes achievers s v d
    closed_last {of} g c v d l =
        let start : Below sizes of (fact_number sizes (start_numbers sizes s)) = record { at = λ v d f. rw (fact_listed sizes (start_number s) v d f) (g.below_start.at v d f) } in
        at_most_antisym ((closed_leads c last_leads (settling_start sizes achievers s).count start).at v d l) (g.above_last.at v d l)

-- ---- turns

module _ (sizes : List ℕ) (achievers : List Achiever) (s : List ℕ) (wf : All (WfAchiever sizes) achievers) (supported : All (λ a. Supported a.cost) achievers) where
  -- the numbers of the start are on the way
  leads_below : {numbers later : List Number} → Leads (additive_round sizes achievers) numbers later → length numbers ≡ fact_count sizes → Below sizes (fact_number sizes later) (fact_number sizes numbers)
  leads_below (stay {numbers = numbers}) e = record { at = λ v d l. at_most_refl (fact_number sizes numbers v d) }
  leads_below (go_on {numbers = numbers} l) e =
      record {
        at = λ v d f.
            at_most_trans ((leads_below l (round_length sizes achievers numbers ∙ e)).at v d f) (rw (round_at sizes achievers numbers e v d f) (lesser_at_most (fact_number sizes numbers v d) _));
      }

  pub nearing_start : {ranks : List ℕ} → Roomy sizes (length ranks) → HasRanks ranks (start_number s) → Nearing sizes achievers s (rank_number ranks)
  nearing_start {ranks} roomy h =
      let is : (v d : ℕ) → d < get_or sizes v 0 → rank_number ranks v d ≡ start_number s v d = λ v d f. h.at v d (roomy.room v d f) in
      let last = leads_below (last_leads sizes achievers s) (settling_start sizes achievers s).count in
      record {
        above_last = record { at = λ v d f. subst (AtMost (last_number sizes achievers s v d)) (fact_listed sizes (start_number s) v d f ∙ sym (is v d f)) (last.at v d f) };
        below_start = record { at = λ v d f. rw (is v d f) (at_most_refl (start_number s v d)) };
      }

  -- an offer keeps numbers on the way
  nearing_offer : {a : Achiever} (ranks next : List ℕ) → WfAchiever sizes a → Supported a.cost → Closed sizes (last_number sizes achievers s) a → Roomy sizes (length next)
      → HasRanks next (after_own (length sizes) a (rank_number ranks)) → Nearing sizes achievers s (rank_number ranks) → Nearing sizes achievers s (rank_number next)
  unfolding after_offer
  nearing_offer {a} ranks next w p c roomy h g =
      let is : (v d : ℕ) → d < get_or sizes v 0 → rank_number next v d ≡ lesser (rank_number ranks v d) (offered_by (offer_of (length sizes) (rank_number ranks) a) v d)
      = λ v d f. h.at v d (roomy.room v d f) in
      record {
        above_last = record {
          at = λ v d f.
              rw (is v d f)
              (lesser_least (g.above_last.at v d f) (at_most_trans (c.at v d f) (offer_monotone sizes (length sizes) g.above_last w p v d)));
        };
        below_start = record { at = λ v d f. rw (is v d f) (at_most_trans (lesser_at_most (rank_number ranks v d) _) (g.below_start.at v d f)) };
      }

  -- as many ranks as before
  room_kept : {ranks next : List ℕ} {fell : Bool} → Fell ranks next fell → Roomy sizes (length ranks) → Roomy sizes (length next)
  room_kept f roomy = subst (Roomy sizes) (sym f.count) roomy

  -- the offers of some
  nearing_some : {some : List Achiever} {ranks later : List ℕ} {fell : Bool} → InTurn (length sizes) some ranks later fell → All (WfAchiever sizes) some → All (λ a. Supported a.cost) some
      → All (Closed sizes (last_number sizes achievers s)) some → Roomy sizes (length ranks) → Nearing sizes achievers s (rank_number ranks) → Nearing sizes achievers s (rank_number later)
  nearing_some nobody w p c roomy g = g
  nearing_some (first {ranks = ranks} {mid = mid} h f t is) w p c roomy g =
      let room = room_kept f roomy in
      nearing_some t w.1 p.1 c.1 room (nearing_offer ranks mid w.0 p.0 c.0 room h g)

  -- a turn of all keeps numbers on the way
  pub nearing_on : {ranks later : List ℕ} {fell : Bool} → Roomy sizes (length ranks) → Nearing sizes achievers s (rank_number ranks) → InTurn (length sizes) achievers ranks later fell
      → Nearing sizes achievers s (rank_number later)
  nearing_on roomy g t = nearing_some t wf supported (last_closed sizes achievers s) roomy g

  -- an offer that lowers no rank
  closed_offer : {a : Achiever} {ranks : List ℕ} → Roomy sizes (length ranks) → HasRanks ranks (after_own (length sizes) a (rank_number ranks)) → Closed sizes (rank_number ranks) a
  unfolding after_offer
  closed_offer roomy h = record { at = λ v d f. record { is_lesser = sym (h.at v d (roomy.room v d f)) } }

  -- a turn in which no rank falls
  closed_some : {some : List Achiever} {ranks later : List ℕ} {fell : Bool} → InTurn (length sizes) some ranks later fell → fell ≡ false → Roomy sizes (length ranks)
      → All (Closed sizes (rank_number ranks)) some
  closed_some nobody e roomy = tt
  closed_some (first {a = a} {achievers = others} {ranks = ranks} {x = x} {y = y} h f t is) e roomy =
      let same = f.same (or_left x y (is ∙ e)) in (
        closed_offer roomy (subst (λ (mid : List ℕ). HasRanks mid (after_own (length sizes) a (rank_number ranks))) same h),
        subst (λ (mid : List ℕ). All (Closed sizes (rank_number mid)) others) same (closed_some t (or_right x y (is ∙ e)) (room_kept f roomy)),
      )

  -- the end: the numbers are the last ones, and the goal facts' sum by the array into which they are put back is the estimate
  pub nearing_end : {ranks later : List ℕ} {fell : Bool} {numbers : List Est} {goal : Partial} → Roomy sizes (length ranks) → Nearing sizes achievers s (rank_number ranks)
      → InTurn (length sizes) achievers ranks later fell → fell ≡ false → HasFacts sizes numbers (rank_number later) → WfPartial sizes goal
      → sum_from (number_in numbers) 0 (length sizes) goal ≡ additive sizes achievers goal s
  nearing_end {ranks} {later} {numbers = numbers} {goal} roomy g t e h w =
      let still = (turn_fell t).same e in
      facts_sum_same w (number_in numbers) (rank_number later) h.at (length sizes)
      ∙ ap (λ (ranks : List ℕ). sum_from (rank_number ranks) 0 (length sizes) goal) still
      ∙ facts_sum_same w (rank_number ranks) (last_number sizes achievers s) (closed_last sizes achievers s wf supported g (closed_some t e roomy)) (length sizes)
      ∙ sym (additive_sum sizes achievers goal s refl)
