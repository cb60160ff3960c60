-- Why a number falls. What is made of the numbers of facts by sums and the lesser of two falls with them, and only because of a fact whose own
-- number has fallen, to no more than the result.
use Rattle.std.specs.Prelude.{◌≡◌, refl, ◌≢◌, ◌⊎◌, Bool, true, false, ℕ, ◌+◌, ◌≤◌, List, [], ◌∷◌, map, leb}
use Rattle.std.proofs.Common.{sym, ap, ◌∙◌, inl, inr, true≢false, arith, leb-true, leb-false}
use Rattle.facts.specs.Lists.{All}
use Rattle.estimate.specs.Number.{Number, exact, over, never, largest, capped, sum, lesser, AtMost, same}
use Rattle.estimate.specs.NumberLaws.{sum_comm, lesser_comm, at_most_refl, at_most_trans, sum_monotone, lesser_monotone, same_refl, same_true}
use Rattle.estimate.specs.Additive.{Achiever}

-- ---- the order

-- two numbers are the same or they are not
pub by_same : {P : Type 0} (a b : Number) → (a ≡ b → P) → (a ≢ b → P) → P
by_same {P} a b equal differ = go (same a b) refl
  where
    go : (t : Bool) → same a b ≡ t → P
    go true e = equal (same_true a b e)
    go false e = differ (λ q. true≢false (sym (same_refl a) ∙ ap (same a) q ∙ e))

-- one of two is at most the other
at_most_total : (a b : Number) → AtMost a b ⊎ AtMost b a
at_most_total never = λ b. inr (record { is_lesser = lesser_comm b never })
at_most_total over = elim [ never ↦ inl (record { is_lesser = refl }) | over ↦ inl (record { is_lesser = refl }) | exact y ↦ inr (record { is_lesser = refl }) ]
at_most_total (exact x) = elim [ never ↦ inl (record { is_lesser = refl }) | over ↦ inl (record { is_lesser = refl }) | exact y ↦ go y (leb x y) refl ]
  where
    go : (y : ℕ) (t : Bool) → leb x y ≡ t → AtMost (exact x) (exact y) ⊎ AtMost (exact y) (exact x)
    go y true e = inl (record { is_lesser = ap exact (omega (arith, leb-true x y e)) })
    go y false e = inr (record { is_lesser = ap exact (omega (arith, leb-false x y e)) })

-- x is at most what n is capped to, if it is at most n
capped_above : (x n : ℕ) → x ≤ n → AtMost (exact x) (capped n)
capped_above x n l = go (leb n largest)
  where
    go : (t : Bool) → AtMost (exact x) (elim t as (λ t. Number) [ true ↦ exact n | false ↦ over ])
    go true = record { is_lesser = ap exact (omega arith) }
    go false = record { is_lesser = refl }

-- a summand is at most the sum
sum_above : (a b : Number) → AtMost a (sum a b)
sum_above never = λ b. at_most_refl never
sum_above over = elim [ never ↦ record { is_lesser = refl } | over ↦ record { is_lesser = refl } | exact y ↦ record { is_lesser = refl } ]
sum_above (exact x) = elim [ never ↦ record { is_lesser = refl } | over ↦ record { is_lesser = refl } | exact y ↦ capped_above x (x + y) (omega arith) ]

-- ---- causes

-- a fact whose number has changed, and is now at most a
pub record Cause (new old : ℕ → ℕ → Number) (a : Number) : Type 0 where
  pub variable : ℕ
  pub value : ℕ
  pub changed : new variable value ≢ old variable value
  pub at_most : AtMost (new variable value) a

-- a, which is had from new numbers, is the same as b, which was had from old ones, or it is less and there is a cause
pub data Falls (new old : ℕ → ℕ → Number) : Number → Number → Type 0 where
  unchanged : {a : Number} → Falls new old a a
  caused : {a b : Number} → AtMost a b → Cause new old a → Falls new old a b

module _ {new old : ℕ → ℕ → Number} where
  -- a change has a cause
  pub falls_cause : {a b : Number} → Falls new old a b → a ≢ b → Cause new old a
  falls_cause unchanged differ = absurd (differ refl)
  falls_cause (caused l c) differ = c

  -- what falls is at most what it was
  pub falls_at_most : {a b : Number} → Falls new old a b → AtMost a b
  falls_at_most (unchanged {a = a}) = at_most_refl a
  falls_at_most (caused l c) = l

  -- what is a cause for a is one for more
  cause_above : {a b : Number} → AtMost a b → Cause new old a → Cause new old b
  cause_above l c = record { variable = c.variable; value = c.value; changed = c.changed; at_most = at_most_trans c.at_most l }

  -- ---- sums, and the lesser of two

  -- a sum whose first summand has a cause
  sum_caused : {a b c d : Number} → AtMost a b → AtMost c d → Cause new old a → Falls new old (sum a c) (sum b d)
  sum_caused {a} {b} {c} {d} l k cause = caused (sum_monotone l k) (cause_above (sum_above a c) cause)

  -- a sum of two that fall
  pub falls_sum : {a b c d : Number} → Falls new old a b → Falls new old c d → Falls new old (sum a c) (sum b d)
  falls_sum (caused l cause) k = sum_caused l (falls_at_most k) cause
  falls_sum unchanged unchanged = unchanged
  falls_sum (unchanged {a = a}) (caused {a = c} {b = d} k cause) = rw (sum_comm a c, sum_comm a d) (sum_caused k (at_most_refl a) cause)

  -- with a summand that is always the same
  pub falls_plus : (a : Number) {c d : Number} → Falls new old c d → Falls new old (sum a c) (sum a d)
  falls_plus a k = falls_sum (unchanged {a = a}) k

  -- the lesser of two that fall, where it is the first
  first_falls : {a b c d : Number} → AtMost a c → Falls new old a b → Falls new old c d → Falls new old (lesser a c) (lesser b d)
  first_falls first (caused l cause) k = caused (lesser_monotone l (falls_at_most k)) (rw first.is_lesser cause)
  first_falls first unchanged k = rw (first.is_lesser, (at_most_trans first (falls_at_most k)).is_lesser) unchanged

  -- the lesser of two that fall
  pub falls_lesser : {a b c d : Number} → Falls new old a b → Falls new old c d → Falls new old (lesser a c) (lesser b d)
  falls_lesser {a} {b} {c} {d} h k = elim (at_most_total a c) [ inl l ↦ first_falls l h k | inr l ↦ rw (lesser_comm a c, lesser_comm b d) (first_falls l k h) ]

-- what is had from numbers of facts that fall, falls by a cause
pub record Supported (f : (ℕ → ℕ → Number) → Number) : Type 0 where
  pub falls : {new old : ℕ → ℕ → Number} → ((v d : ℕ) → AtMost (new v d) (old v d)) → Falls new old (f new) (f old)

-- a cost that does not depend on the numbers
pub constant_supported : (a : Number) → Supported (λ of. a)
constant_supported a = record { falls = λ lower. unchanged }

-- the costs of achievers that are made alike
pub all_supported : {A : Type 0} (achiever : A → Achiever) → ((x : A) → Supported (achiever x).cost) → (xs : List A) → All (λ a. Supported a.cost) (map achiever xs)
all_supported achiever h [] = tt
all_supported achiever h (x ∷ xs) = (h x, all_supported achiever h xs)

-- ---- what a round makes of the numbers

module _ {new old : ℕ → ℕ → Number} (lower : (v d : ℕ) → AtMost (new v d) (old v d)) where
  -- the number of one fact
  pub falls_number : (v d : ℕ) → Falls new old (new v d) (old v d)
  falls_number v d =
      by_same (new v d) (old v d) (λ e. rw e unchanged)
      (λ differ. caused (lower v d) (record { variable = v; value = d; changed = differ; at_most = at_most_refl (new v d) }))
