-- Laws of numbers lent as ranks: room for all facts, reading one, storing one, lowering some, the start, and an offer to one fact.
use Rattle.std.specs.Prelude.{◌≡◌, ◌≢◌, Bool, ◌&&◌, ◌||◌, ℕ, zero, suc, ◌+◌, ◌*◌, ◌≤◌, ◌<◌, min, List, [], ◌∷◌, eqb, length, take, set, replicate}
use Rattle.std.proofs.Math.Path.{refl, ap}
use Rattle.std.proofs.Common.{sym, ◌∙◌, subst, true≢false, lt_of_not-le, arith, get_or-set_same, get_or-set_other}
use Rattle.std.proofs.Math.Bool.{true, false}
use Rattle.std.proofs.lemmas.Bool.{false≢true}
use Rattle.std.proofs.Math.Decide.{dec_le, ℕ_discrete}
use Rattle.std.proofs.Math.Numerals.{add-one}
use Rattle.std.proofs.Math.Dec.{ltb}
use Rattle.std.proofs.Math.ListN.{get_or, length-set, get_or-eq_default}
use borrow.Author.Tests.{lt-ltb, le-ltb, eq-eqb, eqb-true}
use Rattle.facts.specs.Lists.{total, All}
use Rattle.estimate.specs.Number.{Number, exact, never, lesser, rank, ranked}
use Rattle.estimate.specs.NumberLaws.{lesser_comm, lesser_never, lesser_zero, ranked_min, ranked_never}
use Rattle.estimate.specs.Facts.{most_variables, most_values, fact_index, start_number}
use Rattle.estimate.specs.FactsLaws.{start_here, start_other, start_below}
use Rattle.estimate.specs.Ranks.{rank_number, Room, Roomy, HasRanks, Fresh, started_over, Fell, offered_to, after_fact}

-- ---- room

-- only variables have values
pub fact_variable : (sizes : List ℕ) (v d : ℕ) → d < get_or sizes v 0 → v < length sizes
fact_variable [] v d l = absurd (omega arith)
fact_variable (n ∷ sizes) zero d l = omega arith
fact_variable (n ∷ sizes) (suc v) d l = omega (arith, fact_variable sizes v d l)

sizes_at : (most : ℕ) (sizes : List ℕ) → All (λ n. (2 ≤ n) × (n ≤ most)) sizes → (v : ℕ) → get_or sizes v 0 ≤ most
sizes_at most [] h v = omega arith
sizes_at most (n ∷ sizes) h zero = h.0.1
sizes_at most (n ∷ sizes) h (suc v) = sizes_at most sizes h.1 v

-- as many ranks as others
pub roomy_same : {sizes : List ℕ} {count others : ℕ} → Roomy sizes count → others ≡ count → Roomy sizes others
roomy_same {sizes} r e = subst (Roomy sizes) (sym e) r

-- an array of facts has room for all facts of a file within its limits
pub roomy : {most variables count : ℕ} (sizes : List ℕ) → length sizes ≤ variables → variables ≤ most_variables → All (λ n. (2 ≤ n) × (n ≤ most)) sizes → most ≤ most_values
    → variables * most_values ≤ count → Roomy sizes count
roomy {most} sizes few l h k e =
    record {
      room = λ v d f.
          let v-lt : v < most_variables = omega (arith, fact_variable sizes v d f) in
          let d-lt : d < most_values = omega (arith, sizes_at most sizes h v) in
          record { variable = v-lt; value = d-lt; place = omega (arith, fact_variable sizes v d f) };
    }

-- fewer ranks have room for all facts of a file with few variables
pub roomy_few : {sizes : List ℕ} {most count : ℕ} → Roomy sizes most → length sizes * most_values ≤ count → Roomy sizes count
roomy_few {sizes} r l =
    record { room = λ v d f. let there = r.room v d f in record { variable = there.variable; value = there.value; place = omega (arith, there.value, fact_variable sizes v d f) } }

-- ---- reading a number

module _ (ranks : List ℕ) (v d : ℕ) where
  pub rank_here : v < most_variables → d < most_values → rank_number ranks v d ≡ ranked (get_or ranks (fact_index v d) (rank never))
  unfolding rank_number
  rank_here h k = rw (lt-ltb v most_variables h, lt-ltb d most_values k, rank_number)

  pub rank_variable : most_variables ≤ v → rank_number ranks v d ≡ never
  unfolding rank_number
  rank_variable h = rw (le-ltb v most_variables h, rank_number)

  pub rank_value : most_values ≤ d → rank_number ranks v d ≡ never
  unfolding rank_number
  rank_value h = go (ltb v most_variables)
    where
      go : (b : Bool) → elim (b && ltb d most_values) as (λ b. Number) [ true ↦ ranked (get_or ranks (fact_index v d) (rank never)) | false ↦ never ] ≡ never
      go true = rw (le-ltb d most_values h)
      go false = refl

  pub rank_cut : v < most_variables → d < most_values → length ranks ≤ fact_index v d → rank_number ranks v d ≡ never
  rank_cut h k l = rank_here h k ∙ ap ranked (get_or-eq_default ranks (rank never) l)

  -- the number at a place of the list
  pub rank_at : (z : ℕ) → Room (length ranks) v d → rank_number ranks v d ≡ ranked (get_or ranks (fact_index v d) z)
  rank_at z r = rank_here r.variable r.value ∙ ap ranked (get_d_any ranks (fact_index v d) (rank never) z r.place)
    where
      get_d_any : (xs : List ℕ) (k a b : ℕ) → k < length xs → get_or xs k a ≡ get_or xs k b
      get_d_any [] k a b l = absurd (omega arith)
      get_d_any (x ∷ xs) zero a b l = refl
      get_d_any (x ∷ xs) (suc k) a b l = get_d_any xs k a b (omega arith)

-- ---- storing one

module _ (ranks : List ℕ) (u x r : ℕ) (room : Room (length ranks) u x) where
  -- the ranks with that of one fact stored
  abbrev stored : List ℕ
  stored = set ranks (fact_index u x) r

  pub stored_here : rank_number stored u x ≡ ranked r
  stored_here = rank_here stored u x room.variable room.value ∙ ap ranked (get_or-set_same ranks (fact_index u x) r (rank never) room.place)

  pub stored_other : (v d : ℕ) → (v ≡ u → d ≢ x) → rank_number stored v d ≡ rank_number ranks v d
  stored_other v d other = elim (dec_le most_variables v) [
    | yes past ↦ rank_variable stored v d past ∙ sym (rank_variable ranks v d past)
    | no low ↦ elim (dec_le most_values d) [
      | yes past ↦ rank_value stored v d past ∙ sym (rank_value ranks v d past)
      | no few ↦
          let v-lt = lt_of_not-le low in
          let d-lt = lt_of_not-le few in
          rank_here stored v d v-lt d-lt
          ∙ ap ranked (get_or-set_other ranks (fact_index u x) (fact_index v d) r (rank never) (λ e. other (omega (arith, room.value)) (omega (arith, room.value))))
          ∙ sym (rank_here ranks v d v-lt d-lt)
    ]
  ]

-- ---- lowering ranks

-- none is lowered
pub fell_none : (ranks : List ℕ) → Fell ranks ranks false
fell_none ranks = record { count = refl; same = λ e. refl; less = λ e. absurd (false≢true e) }

-- the sum of ranks of which one is stored
total_set : (ranks : List ℕ) (k r z : ℕ) → k < length ranks → total (λ r. r) (set ranks k r) + get_or ranks k z ≡ total (λ r. r) ranks + r
total_set [] k r z l = absurd (omega arith)
total_set (x ∷ ranks) zero r z l = omega arith
total_set (x ∷ ranks) (suc k) r z l = omega (arith, total_set ranks k r z (omega arith))

-- one is lowered
pub fell_stored : (ranks : List ℕ) (k r z : ℕ) → k < length ranks → r < get_or ranks k z → Fell ranks (set ranks k r) true
fell_stored ranks k r z l low = record { count = length-set ranks k r; same = λ e. absurd (true≢false e); less = λ e. omega (arith, total_set ranks k r z l) }

-- some are lowered, and then others
pub fell_more : {before mid now : List ℕ} {a b c : Bool} → Fell before mid a → Fell mid now b → (a || b) ≡ c → Fell before now c
fell_more {before} {mid} {now} {a} {b} one two is = subst (Fell before now) is (go a b one two)
  where
    go : (a b : Bool) → Fell before mid a → Fell mid now b → Fell before now (a || b)
    go true true f g = record { count = g.count ∙ f.count; same = λ e. absurd (true≢false e); less = λ e. omega (arith, f.less refl, g.less refl) }
    go true false f g = record { count = g.count ∙ f.count; same = λ e. absurd (true≢false e); less = λ e. omega (arith, f.less refl, ap (total (λ r. r)) (g.same refl)) }
    go false b f g = subst (λ (ranks : List ℕ). Fell ranks now b) (f.same refl) g

-- `a || b` as code finds it: a where a is true, and else b
pub or_first : {a c : Bool} (b : Bool) → a ≡ true → c ≡ a → (a || b) ≡ c
or_first b t e = ap (λ x. x || b) t ∙ sym (e ∙ t)

pub or_second : {a b c : Bool} → a ≡ false → c ≡ b → (a || b) ≡ c
or_second {b = b} f e = ap (λ x. x || b) f ∙ sym e

-- or as code keeps it that was told one after the other: true where the later is true, and else what it was
pub or_set : {b c : Bool} (a : Bool) → b ≡ true → c ≡ true → (a || b) ≡ c
or_set true t e = sym e
or_set false t e = t ∙ sym e

pub or_kept : {b c : Bool} (a : Bool) → b ≡ false → c ≡ a → (a || b) ≡ c
or_kept true f e = sym e
or_kept false f e = f ∙ sym e

-- ---- the start

-- ranks that are all never's are fresh
pub fresh_filled : (n x : ℕ) → rank never ≤ x → Fresh (replicate n x)
fresh_filled n x high = record {
  at = λ v d. elim (dec_le most_variables v) [
    | yes past ↦ rank_variable (replicate n x) v d past
    | no low ↦ elim (dec_le most_values d) [
      | yes past ↦ rank_value (replicate n x) v d past
      | no few ↦ rank_here (replicate n x) v d (lt_of_not-le low) (lt_of_not-le few) ∙ ranked_never (get_or (replicate n x) (fact_index v d) (rank never)) (fill n (fact_index v d))
    ]
  ];
}
  where
    fill : (n k : ℕ) → rank never ≤ get_or (replicate n x) k (rank never)
    fill zero k = omega arith
    fill (suc n) zero = high
    fill (suc n) (suc k) = fill n k

-- fresh ranks have the numbers of the start, once they are lowered to it
pub started_fresh : {before : List ℕ} → Fresh before → (s : List ℕ) {ranks : List ℕ} → HasRanks ranks (started_over (rank_number before) s) → HasRanks ranks (start_number s)
unfolding started_over
started_fresh fresh s h = record { at = λ v d r. h.at v d r ∙ ap (λ a. lesser a (start_number s v d)) (fresh.at v d) }

-- no variable of the state is read
pub started_none : (ranks : List ℕ) → HasRanks ranks (started_over (rank_number ranks) [])
unfolding started_over
started_none ranks = record { at = λ v d r. sym (lesser_never (rank_number ranks v d)) }

module _ {ranks : List ℕ} (of : ℕ → ℕ → Number) (s : List ℕ) (v : ℕ) (h : HasRanks ranks (started_over of (take v s))) where
  -- what one variable more does not change
  still : (w d : ℕ) → v < length s → (w ≡ v → d ≢ get_or s v 0) → started_over of (take v s) w d ≡ started_over of (take (suc v) s) w d
  unfolding started_over
  still w d l apart = ap (lesser (of w d)) (start_other s v w d l apart)

  -- the fact of the next variable is stored
  pub started_stored : {k : ℕ} → k ≡ fact_index v (get_or s v 0) → v < length s → Room (length ranks) v (get_or s v 0) → (r : ℕ) → ranked r ≡ exact 0 → HasRanks (set ranks k r) (started_over of (take (v + 1) s))
  unfolding started_over
  started_stored {k} q l room r e = rw (q, add-one v) (record { at = λ w d there. go w d there (ℕ_discrete w v) (ℕ_discrete d (get_or s v 0)) })
    where
      other : (w d : ℕ) → Room (length (set ranks (fact_index v (get_or s v 0)) r)) w d → (w ≡ v → d ≢ get_or s v 0)
          → rank_number (set ranks (fact_index v (get_or s v 0)) r) w d ≡ started_over of (take (suc v) s) w d
      other w d there apart =
          stored_other ranks v (get_or s v 0) r room w d apart
          ∙ h.at w d (record { variable = there.variable; value = there.value; place = omega (arith, there.place, length-set ranks (fact_index v (get_or s v 0)) r) })
          ∙ still w d l apart

      own : started_over of (take (suc v) s) v (get_or s v 0) ≡ exact 0
      own = ap (lesser (of v (get_or s v 0))) (start_here s v l) ∙ lesser_comm (of v (get_or s v 0)) (exact 0) ∙ lesser_zero (of v (get_or s v 0))

      go : (w d : ℕ) → Room (length (set ranks (fact_index v (get_or s v 0)) r)) w d → Dec (w ≡ v) → Dec (d ≡ get_or s v 0)
          → rank_number (set ranks (fact_index v (get_or s v 0)) r) w d ≡ started_over of (take (suc v) s) w d
      go w d there (yes p) (yes c) = rw (p, c) (stored_here ranks v (get_or s v 0) r room ∙ e ∙ sym own)
      go w d there (yes p) (no c) = other w d there (λ z. c)
      go w d there (no p) c = other w d there (λ z. absurd (p z))

  -- there is no room for it
  pub started_passed : v < length s → (Room (length ranks) v (get_or s v 0) → ⊥) → HasRanks ranks (started_over of (take (v + 1) s))
  started_passed l none = rw (add-one v) (record {
    at = λ w d r. h.at w d r ∙ still w d l (λ p q. none (subst (λ (w : ℕ). Room (length ranks) w (get_or s v 0)) p (subst (λ (c : ℕ). Room (length ranks) w c) q r)));
  })

  -- all variables for which there is room are read
  pub started_full : min (length s) most_variables ≤ v → HasRanks ranks (started_over of s)
  unfolding started_over
  started_full l = record { at = λ w d r. h.at w d r ∙ ap (lesser (of w d)) (start_below s v w d (omega (arith, r.variable))) }

-- ---- an offer to one fact

to_here : (offer : Number) (u x : ℕ) → offered_to offer u x u x ≡ offer
to_here offer zero x = rw (eq-eqb x x refl, offered_to)
to_here offer (suc u) x = to_here offer u x

to_other : (offer : Number) (u x v d : ℕ) → (v ≡ u → d ≢ x) → offered_to offer u x v d ≡ never
to_other offer zero x zero d other = go (eqb x d) refl
  where
    go : (t : Bool) → eqb x d ≡ t → elim t as (λ t. Number) [ true ↦ offer | false ↦ never ] ≡ never
    go true e = absurd (other refl (sym (eqb-true x d e)))
    go false e = refl
to_other offer zero x (suc v) d other = refl
to_other offer (suc u) x zero d other = refl
to_other offer (suc u) x (suc v) d other = to_other offer u x v d (λ e. other (ap suc e))

-- there is no room for the fact
pub fact_no_room : (ranks : List ℕ) (u x : ℕ) (offer : Number) → (Room (length ranks) u x → ⊥) → HasRanks ranks (after_fact offer u x (rank_number ranks))
unfolding after_fact
fact_no_room ranks u x offer none =
    record {
      at = λ v d r. sym (ap (lesser (rank_number ranks v d)) (to_other offer u x v d (λ p q. none (subst (λ (w : ℕ). Room (length ranks) w x) p (subst (λ (c : ℕ). Room (length ranks) v c) q r)))) ∙ lesser_never (rank_number ranks v d));
    }

-- ranks that have the offer's number at the fact, if it is the lesser, and the same numbers elsewhere
fact_offered : (ranks next : List ℕ) (u x n : ℕ) → rank_number next u x ≡ lesser (rank_number ranks u x) (ranked n)
    → ((v d : ℕ) → (v ≡ u → d ≢ x) → rank_number next v d ≡ rank_number ranks v d) → HasRanks next (after_fact (ranked n) u x (rank_number ranks))
unfolding after_fact
fact_offered ranks next u x n here-is other-is = record { at = λ v d r. go v d (ℕ_discrete v u) (ℕ_discrete d x) }
  where
    other : (v d : ℕ) → (v ≡ u → d ≢ x) → rank_number next v d ≡ after_fact (ranked n) u x (rank_number ranks) v d
    other v d apart = other-is v d apart ∙ sym (ap (lesser (rank_number ranks v d)) (to_other (ranked n) u x v d apart) ∙ lesser_never (rank_number ranks v d))

    go : (v d : ℕ) → Dec (v ≡ u) → Dec (d ≡ x) → rank_number next v d ≡ after_fact (ranked n) u x (rank_number ranks) v d
    go v d (yes p) (yes q) = rw (p, q) (here-is ∙ ap (lesser (rank_number ranks u x)) (sym (to_here (ranked n) u x)))
    go v d (no p) q = other v d (λ e. absurd (p e))
    go v d (yes p) (no q) = other v d (λ e. q)

module _ (ranks : List ℕ) (u x n z : ℕ) (room : Room (length ranks) u x) where
  lesser_is : (r : ℕ) → r ≡ min (get_or ranks (fact_index u x) z) n → ranked r ≡ lesser (rank_number ranks u x) (ranked n)
  lesser_is r e = ap ranked e ∙ ranked_min (get_or ranks (fact_index u x) z) n ∙ ap (λ a. lesser a (ranked n)) (sym (rank_at ranks u x z room))

  -- the offer is the lesser rank, and is stored
  pub fact_lowered : n < get_or ranks (fact_index u x) z → HasRanks (set ranks (fact_index u x) n) (after_fact (ranked n) u x (rank_number ranks))
  fact_lowered low = fact_offered ranks (set ranks (fact_index u x) n) u x n (stored_here ranks u x n room ∙ lesser_is n (omega arith)) (stored_other ranks u x n room)

  -- the fact has the lesser rank already
  pub fact_low : get_or ranks (fact_index u x) z ≤ n → HasRanks ranks (after_fact (ranked n) u x (rank_number ranks))
  fact_low low = fact_offered ranks ranks u x n (rank_at ranks u x z room ∙ lesser_is (get_or ranks (fact_index u x) z) (omega arith)) (λ v d apart. refl)
