-- Laws of the additive heuristic: a round for each fact, rounds until one changes nothing, the state's own facts, and the ways in which the
-- operation can go.
use Rattle.std.specs.Prelude.{◌≡◌, refl, Bool, true, false, ℕ, zero, suc, ◌<◌, eqb, length, get_or}
use Rattle.std.proofs.Common.{sym, ap₂, ◌∙◌, arith, eq-eqb}
use Rattle.std.proofs.Math.Path.{ap}
use mathlib.Core.List.{List, [], ◌∷◌}
use Rattle.facts.specs.Read.{Read, accepted, refused}
use Rattle.facts.specs.Lists.{All}
use Rattle.facts.specs.Partial.{Partial}
use Rattle.facts.specs.State.{Inside, check_state}
use Rattle.facts.specs.PartialLaws.{inside_length, inside_at}
use Rattle.estimate.specs.Number.{Number, exact, never, lesser, WithinCap}
use Rattle.estimate.specs.NumberLaws.{sum_within, lesser_within}
use Rattle.estimate.specs.Facts.{start_number}
use Rattle.estimate.specs.Rounds.{lowered, round_of, settled, Lowering}
use Rattle.estimate.specs.RoundsLaws.{lowered_at, lowered_length, lowered_zero, round_lowering, settled_still, settled_agrees}
use Rattle.estimate.specs.Additive.{fact_count, listed, fact_number, has, sum_from, Offer, offered_by, offered, Achiever, offer_of, offers_by, offers_of, additive_round, start_numbers, last_numbers, additive, estimate_file}
use Rattle.estimate.specs.ListedLaws.{listed_length, fact_place, fact_placed, fact_listed, all_listed}

-- ---- a round

-- for a fact of the file it gives the lesser of its old number and what all achievers offer
pub round_at : (sizes : List ℕ) (achievers : List Achiever) (numbers : List Number) → length numbers ≡ fact_count sizes → (v d : ℕ) → d < get_or sizes v 0
    → fact_number sizes (additive_round sizes achievers numbers) v d
    ≡ lesser (fact_number sizes numbers v d) (offered (offers_by (length sizes) (fact_number sizes numbers) achievers) v d)
unfolding additive_round
round_at sizes achievers numbers e v d l =
    let offers = offers_by (length sizes) (fact_number sizes numbers) achievers in
    let new = listed sizes (offered offers) in
    fact_placed sizes (lowered numbers new) v d l
    ∙ lowered_at numbers new (fact_place sizes v d) (omega (arith, listed_length sizes (offered offers)))
    ∙ ap₂ lesser (sym (fact_placed sizes numbers v d l)) (sym (fact_placed sizes new v d l) ∙ fact_listed sizes (offered offers) v d l)

-- it keeps the length
pub round_length : (sizes : List ℕ) (achievers : List Achiever) (numbers : List Number) → length (additive_round sizes achievers numbers) ≡ length numbers
unfolding additive_round
round_length sizes achievers numbers = lowered_length numbers (offers_of sizes achievers numbers)

-- ---- rounds until one changes nothing

offered_by_within : (o : Offer) → WithinCap o.number → (v d : ℕ) → WithinCap (offered_by o v d)
offered_by_within o h v d = go (has o.effect v d)
  where
    go : (b : Bool) → WithinCap (elim b as (λ b. Number) [ true ↦ o.number | false ↦ never ])
    go true = h
    go false = tt

offered_within : (n : ℕ) (of : ℕ → ℕ → Number) (achievers : List Achiever) (v d : ℕ) → WithinCap (offered (offers_by n of achievers) v d)
offered_within n of [] v d = tt
offered_within n of (a ∷ achievers) v d =
    lesser_within (offered_by (offer_of n of a) v d) (offered (offers_by n of achievers) v d)
    (offered_by_within (offer_of n of a) (sum_within (sum_from of 0 n a.pre) (a.cost of)) v d) (offered_within n of achievers v d)

-- a round keeps numbers within the cap and raises none
pub additive_lowering : (sizes : List ℕ) (achievers : List Achiever) → Lowering (additive_round sizes achievers)
unfolding additive_round
additive_lowering sizes achievers =
    round_lowering (offers_of sizes achievers)
    (λ numbers k.
    let of = fact_number sizes numbers in
    let n = length sizes in
    all_listed WithinCap (offered (offers_by n of achievers)) (offered_within n of achievers) sizes)

-- 0 and never are within the cap
start_within : (s : List ℕ) (v d : ℕ) → WithinCap (start_number s v d)
start_within [] v d = tt
start_within (x ∷ s) zero d = go (eqb x d)
  where
    go : (b : Bool) → WithinCap (elim b as (λ b. Number) [ true ↦ exact 0 | false ↦ never ])
    go true = omega arith
    go false = tt
start_within (x ∷ s) (suc v) d = start_within s v d

-- rounds have led to these numbers
pub record Settling (sizes : List ℕ) (achievers : List Achiever) (s : List ℕ) (numbers : List Number) : Type 0 where
  pub count : length numbers ≡ fact_count sizes
  pub within : All WithinCap numbers
  pub same : last_numbers sizes achievers s ≡ settled (additive_round sizes achievers) numbers

-- before the first round
pub settling_start : (sizes : List ℕ) (achievers : List Achiever) (s : List ℕ) → Settling sizes achievers s (start_numbers sizes s)
unfolding last_numbers
settling_start sizes achievers s =
    record { count = listed_length sizes (start_number s); within = all_listed WithinCap (start_number s) (start_within s) sizes; same = refl }

module _ {sizes : List ℕ} {achievers : List Achiever} {s : List ℕ} {numbers : List Number} (g : Settling sizes achievers s numbers) where
  -- a round that changes nothing
  pub settling_end : additive_round sizes achievers numbers ≡ numbers → last_numbers sizes achievers s ≡ numbers
  settling_end still = g.same ∙ settled_still (additive_round sizes achievers) numbers still

-- ---- the answer

-- it is the sum of the goal facts' last numbers
pub additive_sum : (sizes : List ℕ) (achievers : List Achiever) (goal : Partial) (s : List ℕ) {numbers : List Number} → last_numbers sizes achievers s ≡ numbers
    → additive sizes achievers goal s ≡ sum_from (fact_number sizes numbers) 0 (length sizes) goal
unfolding additive
additive_sum sizes achievers goal s e = ap (λ (numbers : List Number). sum_from (fact_number sizes numbers) 0 (length sizes) goal) e

-- ---- the state's own facts keep the number 0

-- each variable's value in the state s has the number 0
pub record OwnZero (sizes s : List ℕ) (numbers : List Number) : Type 0 where
  pub is_zero : (v : ℕ) → v < length sizes → fact_number sizes numbers v (get_or s v 0) ≡ exact 0

-- "0 where the state has it"
start_own : (s : List ℕ) (v : ℕ) → v < length s → start_number s v (get_or s v 0) ≡ exact 0
start_own [] v l = absurd (omega arith)
start_own (x ∷ s) zero l = rw (eq-eqb x x refl, start_number)
start_own (x ∷ s) (suc v) l = start_own s v (omega arith)

module _ (sizes s : List ℕ) (inside : Inside sizes s) where
  -- they have it at the start
  start_zero : OwnZero sizes s (start_numbers sizes s)
  start_zero =
      record { is_zero = λ v l. fact_listed sizes (start_number s) v (get_or s v 0) (inside_at sizes s v inside l) ∙ start_own s v (omega (arith, inside_length sizes s inside)) }

  -- they have it after a round, whatever is offered
  round_zero : (offers : List Number → List Number) (numbers : List Number) → OwnZero sizes s numbers → OwnZero sizes s (round_of offers numbers)
  round_zero offers numbers own =
      record {
        is_zero = λ v l.
            let d = get_or s v 0 in
            let low = inside_at sizes s v inside l in
            fact_placed sizes (lowered numbers (offers numbers)) v d low
            ∙ lowered_zero numbers (offers numbers) (fact_place sizes v d) (sym (fact_placed sizes numbers v d low) ∙ own.is_zero v l);
      }

  -- achievers that offer the same where they have it are estimated alike
  pub additive_agrees : (achievers others : List Achiever) (goal : Partial)
      → ((numbers : List Number) → OwnZero sizes s numbers → offers_by (length sizes) (fact_number sizes numbers) achievers ≡ offers_by (length sizes) (fact_number sizes numbers) others)
      → additive sizes achievers goal s ≡ additive sizes others goal s
  unfolding additive last_numbers additive_round
  additive_agrees achievers others goal same =
      ap (λ (numbers : List Number). sum_from (fact_number sizes numbers) 0 (length sizes) goal)
      (settled_agrees (OwnZero sizes s)
      (λ numbers own. ap (λ (offers : List Offer). lowered numbers (listed sizes (offered offers))) (same numbers own))
      (λ numbers own. round_zero (offers_of sizes achievers) numbers own)
      (start_numbers sizes s) start_zero)

-- ---- the ways in which the operation can go

module _ {File : Type 0} (sizes : File → List ℕ) (estimate : File → List ℕ → Number) {read : Read File} (s : List ℕ) where
  -- the file is refused
  pub estimate_refused : {n p : ℕ} → read ≡ refused n p → estimate_file sizes estimate read s ≡ refused n p
  unfolding estimate_file
  estimate_refused h = rw h

  -- the state is turned down
  pub estimate_turned_down : {file : File} {n p : ℕ} → read ≡ accepted file → check_state (sizes file) s ≡ refused n p → estimate_file sizes estimate read s ≡ refused n p
  unfolding estimate_file
  estimate_turned_down h c = rw (h, c)

  -- the answer
  pub estimate_answers : {file : File} {u : Unit {0}} → read ≡ accepted file → check_state (sizes file) s ≡ accepted u → estimate_file sizes estimate read s ≡ accepted (estimate file s)
  unfolding estimate_file
  estimate_answers h c = rw (h, c)
