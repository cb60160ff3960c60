-- How many rounds there are: no more change something than there are facts. A fact that one round changes is changed because of a fact that the
-- round before has changed, to no more; so each round that changes something finds one fact more that has at most the number that it gives.
use Rattle.std.specs.Prelude.{◌≡◌, refl, ◌≢◌, Bool, true, false, ℕ, zero, suc, ◌+◌, ◌≤◌, ◌<◌, List, [], ◌∷◌, length, get_or}
use Rattle.std.proofs.Common.{sym, ap, ◌∙◌, subst₂, le_refl, arith}
use Rattle.facts.specs.Lists.{total, All, Zip, nil, cons}
use Rattle.estimate.specs.Number.{Number, exact, never, lesser, AtMost, same}
use Rattle.estimate.specs.NumberLaws.{at_most_refl, at_most_trans, at_most_antisym, lesser_zero, lesser_at_most, same_refl, same_true}
use Rattle.estimate.specs.Rounds.{settle}
use Rattle.estimate.specs.RoundsLaws.{by_change}
use Rattle.estimate.specs.Additive.{fact_count, fact_number, Achiever, offered, offers_by, additive_round, start_numbers}
use Rattle.estimate.specs.ListedLaws.{fact_place, fact_placed, fact_none, facts_same}
use Rattle.estimate.specs.AdditiveLaws.{round_at, additive_lowering, Settling, settling_start, settling_end}
use Rattle.estimate.proofs.AdditiveLaws.{settling_on}
use Rattle.estimate.specs.FallLaws.{by_same, Cause, Falls, falls_cause, Supported}
use Rattle.estimate.proofs.FallLaws.{falls_after}
use Rattle.estimate.specs.RoundBound.{after_rounds, FewRounds}

-- ---- a number of rounds

module _ (round : List Number → List Number) where
  -- the first round and then the others
  rounds_front : (n : ℕ) (numbers : List Number) → after_rounds round n (round numbers) ≡ after_rounds round (suc n) numbers
  rounds_front zero numbers = refl
  rounds_front (suc n) numbers = ap round (rounds_front n numbers)

  -- rounds that change nothing
  rounds_still : (n : ℕ) (numbers : List Number) → round numbers ≡ numbers → after_rounds round n numbers ≡ numbers
  rounds_still zero numbers still = refl
  rounds_still (suc n) numbers still = ap round (rounds_still n numbers still) ∙ still

  -- rounds that stop once one changes nothing have the numbers of rounds that do not
  settle_rounds : (n : ℕ) (numbers : List Number) → settle round n numbers ≡ after_rounds round n numbers
  settle_rounds zero numbers = refl
  settle_rounds (suc n) numbers =
      by_change round (λ later. later ≡ after_rounds round (suc n) numbers) n numbers
      (λ still. sym (rounds_still (suc n) numbers still))
      (λ changed. settle_rounds n (round numbers) ∙ rounds_front n numbers)

-- ---- how many numbers are at most a

-- 1 for a number that is at most a, 0 for any other
abbrev counted : Number → Number → ℕ
counted a x = elim (same (lesser x a) x) [ true ↦ 1 | false ↦ 0 ]

-- how many numbers of a list are at most a
abbrev count_up_to : Number → List Number → ℕ
count_up_to a numbers = total (counted a) numbers

-- a number is at most a and counts, or does not count
by_count : (P : ℕ → Type 0) (a x : Number) → (AtMost x a → P 1) → P 0 → P (counted a x)
by_count P a x within beyond = go (same (lesser x a) x) refl
  where
    go : (t : Bool) → same (lesser x a) x ≡ t → P (elim t [ true ↦ 1 | false ↦ 0 ])
    go true e = within (record { is_lesser = same_true (lesser x a) x e })
    go false e = beyond

-- a number that is at most a counts
counted_one : {a x : Number} → AtMost x a → counted a x ≡ 1
counted_one {a} {x} h = rw (h.is_lesser, same_refl x, counted)

-- no more count than there are numbers
count_most : (a : Number) (numbers : List Number) → count_up_to a numbers ≤ length numbers
count_most a [] = le_refl 0
count_most a (x ∷ numbers) = by_count (λ n. n + count_up_to a numbers ≤ suc (length numbers)) a x (λ h. omega (arith, count_most a numbers)) (omega (arith, count_most a numbers))

-- a lower number counts no less, and no less up to more
counted_rises : {a b x y : Number} → AtMost a b → AtMost y x → counted a x ≤ counted b y
counted_rises {a} {b} {x} {y} h l = by_count (λ n. n ≤ counted b y) a x (λ k. omega (arith, counted_one (at_most_trans l (at_most_trans k h)))) (omega arith)

-- the same for all numbers of two lists
count_rises : {a b : Number} {new old : List Number} → AtMost a b → Zip AtMost new old → count_up_to a old ≤ count_up_to b new
count_rises h nil = le_refl 0
count_rises h (cons l z) = omega (arith, counted_rises h l, count_rises h z)

-- more count if one number has fallen to a or more, and it is counted up to
count_gains : {new old : List Number} → Zip AtMost new old → (a : Number) (k : ℕ) → get_or new k never ≢ get_or old k never → AtMost a (get_or new k never)
    → count_up_to a old < count_up_to (get_or new k never) new
count_gains nil a k differ h = absurd (differ refl)
count_gains (cons {a = y} {b = x} {xs = new} {ys = old} l z) a zero differ h =
    by_count (λ n. n + count_up_to a old < count_up_to y (y ∷ new)) a x
    (λ k. absurd (differ (at_most_antisym l (at_most_trans k h))))
    (omega (arith, counted_one (at_most_refl y), count_rises h z))
count_gains (cons l z) a (suc k) differ h = omega (arith, counted_rises h l, count_gains z a k differ h)

-- ---- rounds of the additive heuristic

module _ (sizes : List ℕ) (achievers : List Achiever) (s : List ℕ) (supported : All (λ a. Supported a.cost) achievers) where
  -- the numbers before the first round
  abbrev start : List Number
  start = start_numbers sizes s

  -- the numbers after k rounds
  abbrev after : ℕ → List Number
  after k = after_rounds (additive_round sizes achievers) k start

  -- the number of one fact after k rounds
  abbrev number : ℕ → ℕ → ℕ → Number
  number k v d = fact_number sizes (after k) v d

  -- rounds have led to them
  settling : (k : ℕ) → Settling sizes achievers s (after k)
  settling zero = settling_start sizes achievers s
  settling (suc k) = settling_on (settling k)

  -- what is changed is a fact of the file
  changed_fact : (k v d : ℕ) → number (suc k) v d ≢ number k v d → d < get_or sizes v 0
  changed_fact k v d differ =
      let some : get_or sizes v 0 ≤ d → ⊥ = λ none. differ (fact_none sizes (after (suc k)) v d none ∙ sym (fact_none sizes (after k) v d none)) in
      omega arith

  -- a round raises no number
  number_falls : (k v d : ℕ) → AtMost (number (suc k) v d) (number k v d)
  number_falls k v d =
      by_same (number (suc k) v d) (number k v d) (λ e. rw e (at_most_refl (number k v d)))
      (λ differ. rw (round_at sizes achievers (after k) (settling k).count v d (changed_fact k v d differ)) (lesser_at_most (number k v d) _))

  -- a fact that one round changes is changed because of one that the round before has changed
  change_cause : (k v d : ℕ) → number (suc (suc k)) v d ≢ number (suc k) v d → Cause (number (suc k)) (number k) (number (suc (suc k)) v d)
  change_cause k v d differ =
      let fact = changed_fact (suc k) v d differ in
      let at : (j : ℕ) → number (suc j) v d ≡ lesser (number j v d) (offered (offers_by (length sizes) (number j) achievers) v d)
      = λ j. round_at sizes achievers (after j) (settling j).count v d fact in
      falls_cause (subst₂ (Falls (number (suc k)) (number k)) (sym (at (suc k))) (sym (at k)) (falls_after (number_falls k) (length sizes) achievers supported v d)) differ

  -- one fact more counts up to the number that a fact is changed to
  change_counts : (k : ℕ) (a : Number) (v d : ℕ) → number (suc k) v d ≢ number k v d → AtMost a (number (suc k) v d)
      → count_up_to a (after k) < count_up_to (number (suc k) v d) (after (suc k))
  change_counts k a v d differ h =
      let fact = changed_fact k v d differ in
      let new = fact_placed sizes (after (suc k)) v d fact in
      let old = fact_placed sizes (after k) v d fact in
      rw new
      (count_gains ((additive_lowering sizes achievers).raises_none (after k) (settling k).within) a (fact_place sizes v d)
      (λ e. differ (new ∙ e ∙ sym old)) (rw (← new) h))

  -- so at least as many facts count up to it as rounds have gone
  rounds_count : (k v d : ℕ) → number (suc k) v d ≢ number k v d → k < count_up_to (number (suc k) v d) (after (suc k))
  rounds_count zero v d differ = omega (arith, change_counts 0 (exact 0) v d differ (record { is_lesser = lesser_zero (number 1 v d) }))
  rounds_count (suc k) v d differ =
      let c = change_cause k v d differ in
      omega (arith, rounds_count k c.variable c.value c.changed, change_counts (suc k) (number (suc k) c.variable c.value) v d differ c.at_most)

  -- after as many rounds as there are facts, or more, a round changes nothing
  late_still : (k : ℕ) → fact_count sizes ≤ k → additive_round sizes achievers (after k) ≡ after k
  late_still k late =
      facts_same sizes (after (suc k)) (after k) (settling (suc k)).count (settling k).count
      (λ v d l. by_same (number (suc k) v d) (number k v d) (λ e. e)
      (λ differ. absurd (omega (arith, late, rounds_count k v d differ, count_most (number (suc k) v d) (after (suc k)), (settling (suc k)).count))))

  -- so a round that changes something comes before
  changes_few : (k : ℕ) → additive_round sizes achievers (after k) ≢ after k → k < fact_count sizes
  changes_few k changed = let early : fact_count sizes ≤ k → ⊥ = λ late. changed (late_still k late) in omega arith

  -- no more rounds change something than there are facts
  pub rounds_few : FewRounds sizes achievers s
  rounds_few =
      let n = fact_count sizes in
      record { changes = changes_few; enough = settle_rounds (additive_round sizes achievers) n start ∙ sym (settling_end (settling n) (late_still n (le_refl n))) }
