-- Laws of the numbers of the estimate: sums, the lesser of two, their order, and the ranks of numbers within the cap.
use Rattle.std.specs.Prelude.{ℕ, ◌+◌, ◌≤◌, ◌<◌, min, ◌≡◌, refl, Bool, true, false, leb}
use Rattle.std.proofs.Common.{sym, ap, ap₂, ◌∙◌, add_comm, arith, leb-true, leb-false, le-leb, eqb-true, eq-eqb}
use Rattle.std.proofs.lemmas.Bool.{false≢true, lt-leb}
use Rattle.std.proofs.Math.Decide.{dec_le}
use Rattle.estimate.specs.Number.{Number, exact, over, never, largest, capped, sum, lesser, AtMost, same, WithinCap, rank, ranked}

-- ---- the cap

capped_exact : (n k : ℕ) → n ≡ k → n ≤ largest → capped n ≡ exact k
capped_exact n k e h = rw (le-leb n largest h, capped) (ap exact e)

capped_over : (n : ℕ) → largest < n → capped n ≡ over
capped_over n h = rw (lt-leb n largest h, capped)

-- a capped number is exact or over
by_cap : (P : Number → Type 0) (n : ℕ) → (n ≤ largest → P (exact n)) → (largest < n → P over) → P (capped n)
by_cap P n below above = go (leb n largest) refl
  where
    go : (t : Bool) → leb n largest ≡ t → P (elim t [ true ↦ exact n | false ↦ over ])
    go true e = below (leb-true n largest e)
    go false e = above (leb-false n largest e)

-- ---- sums

pub sum_comm : (a b : Number) → sum a b ≡ sum b a
sum_comm never = elim [ never ↦ refl | over ↦ refl | exact y ↦ refl ]
sum_comm over = elim [ never ↦ refl | over ↦ refl | exact y ↦ refl ]
sum_comm (exact x) = elim [ never ↦ refl | over ↦ refl | exact y ↦ ap capped (add_comm x y) ]

pub sum_never : (a : Number) → sum a never ≡ never
sum_never a = sum_comm a never

pub sum_zero : (a : Number) → WithinCap a → sum (exact 0) a ≡ a
sum_zero never h = refl
sum_zero over h = refl
sum_zero (exact n) h = capped_exact (0 + n) n (omega arith) (omega arith)

-- a capped number as a summand
over_capped : (n : ℕ) → sum over (capped n) ≡ over
over_capped n = by_cap (λ a. sum over a ≡ over) n (λ h. refl) (λ h. refl)

capped_sum : (m n : ℕ) → sum (capped m) (exact n) ≡ capped (m + n)
capped_sum m n = by_cap (λ a. sum a (exact n) ≡ capped (m + n)) m (λ h. refl) (λ h. sym (capped_over (m + n) (omega arith)))

-- of two capped numbers, the sum is the capped sum
pub sum_capped : (m n : ℕ) → sum (capped m) (capped n) ≡ capped (m + n)
sum_capped m n =
    by_cap (λ a. sum (capped m) a ≡ capped (m + n)) n
    (λ h. capped_sum m n)
    (λ h. sum_comm (capped m) over ∙ over_capped m ∙ sym (capped_over (m + n) (omega arith)))

pub sum_assoc : (a b c : Number) → sum (sum a b) c ≡ sum a (sum b c)
sum_assoc never b c = refl
sum_assoc over never c = refl
sum_assoc over over never = refl
sum_assoc over over over = refl
sum_assoc over over (exact z) = refl
sum_assoc over (exact y) never = refl
sum_assoc over (exact y) over = refl
sum_assoc over (exact y) (exact z) = sym (over_capped (y + z))
sum_assoc (exact x) never c = refl
sum_assoc (exact x) over never = refl
sum_assoc (exact x) over over = refl
sum_assoc (exact x) over (exact z) = refl
sum_assoc (exact x) (exact y) never = sum_never (capped (x + y))
sum_assoc (exact x) (exact y) over = sum_comm (capped (x + y)) over ∙ over_capped (x + y)
sum_assoc (exact x) (exact y) (exact z) =
    let e : x + y + z ≡ y + z + x = omega arith in
    capped_sum (x + y) z ∙ ap capped e ∙ sym (capped_sum (y + z) x) ∙ sum_comm (capped (y + z)) (exact x)

-- ---- the lesser of two

pub lesser_comm : (a b : Number) → lesser a b ≡ lesser b a
lesser_comm never = elim [ never ↦ refl | over ↦ refl | exact y ↦ refl ]
lesser_comm over = elim [ never ↦ refl | over ↦ refl | exact y ↦ refl ]
lesser_comm (exact x) = elim [ never ↦ refl | over ↦ refl | exact y ↦ ap exact (omega arith) ]

pub lesser_never : (a : Number) → lesser a never ≡ a
lesser_never a = lesser_comm a never

pub lesser_zero : (a : Number) → lesser (exact 0) a ≡ exact 0
lesser_zero never = refl
lesser_zero over = refl
lesser_zero (exact n) = ap exact (omega arith)

pub lesser_idem : (a : Number) → lesser a a ≡ a
lesser_idem never = refl
lesser_idem over = refl
lesser_idem (exact n) = ap exact (omega arith)

pub lesser_assoc : (a b c : Number) → lesser (lesser a b) c ≡ lesser a (lesser b c)
lesser_assoc never b c = refl
lesser_assoc over never c = refl
lesser_assoc over over never = refl
lesser_assoc over over over = refl
lesser_assoc over over (exact z) = refl
lesser_assoc over (exact y) never = refl
lesser_assoc over (exact y) over = refl
lesser_assoc over (exact y) (exact z) = refl
lesser_assoc (exact x) never c = refl
lesser_assoc (exact x) over never = refl
lesser_assoc (exact x) over over = refl
lesser_assoc (exact x) over (exact z) = refl
lesser_assoc (exact x) (exact y) never = refl
lesser_assoc (exact x) (exact y) over = refl
lesser_assoc (exact x) (exact y) (exact z) = ap exact (omega arith)

-- ---- a sum distributes over the lesser of two

-- the lesser of capped numbers is the capped lesser
over_lesser : (n : ℕ) → lesser over (capped n) ≡ capped n
over_lesser n = by_cap (λ a. lesser over a ≡ a) n (λ h. refl) (λ h. refl)

lesser_capped : (m n : ℕ) → lesser (capped m) (capped n) ≡ capped (min m n)
lesser_capped m n =
    by_cap (λ a. lesser a (capped n) ≡ capped (min m n)) m
    (λ h. by_cap (λ b. lesser (exact m) b ≡ capped (min m n)) n
    (λ k. sym (capped_exact (min m n) (min m n) refl (omega arith)))
    (λ k. sym (capped_exact (min m n) m (omega arith) (omega arith))))
    (λ h. by_cap (λ b. lesser over b ≡ capped (min m n)) n
    (λ k. sym (capped_exact (min m n) n (omega arith) (omega arith)))
    (λ k. sym (capped_over (min m n) (omega arith))))

pub sum_lesser : (a b c : Number) → sum a (lesser b c) ≡ lesser (sum a b) (sum a c)
sum_lesser never b c = refl
sum_lesser over never c = refl
sum_lesser over over never = refl
sum_lesser over over over = refl
sum_lesser over over (exact z) = refl
sum_lesser over (exact y) never = refl
sum_lesser over (exact y) over = refl
sum_lesser over (exact y) (exact z) = refl
sum_lesser (exact x) never c = refl
sum_lesser (exact x) over never = refl
sum_lesser (exact x) over over = refl
sum_lesser (exact x) over (exact z) = sym (over_lesser (x + z))
sum_lesser (exact x) (exact y) never = sym (lesser_never (capped (x + y)))
sum_lesser (exact x) (exact y) over = sym (lesser_comm (capped (x + y)) over ∙ over_lesser (x + y))
sum_lesser (exact x) (exact y) (exact z) =
    let e : x + min y z ≡ min (x + y) (x + z) = omega arith in
    ap capped e ∙ sym (lesser_capped (x + y) (x + z))

-- ---- the order, in which sums and the lesser of two are monotone

pub at_most_refl : (a : Number) → AtMost a a
at_most_refl a = record { is_lesser = lesser_idem a }

pub at_most_trans : {a b c : Number} → AtMost a b → AtMost b c → AtMost a c
at_most_trans {a} {b} {c} h k =
    record { is_lesser = ap (λ x. lesser x c) (sym h.is_lesser) ∙ lesser_assoc a b c ∙ ap (lesser a) k.is_lesser ∙ h.is_lesser }

pub at_most_antisym : {a b : Number} → AtMost a b → AtMost b a → a ≡ b
at_most_antisym {a} {b} h k = sym h.is_lesser ∙ lesser_comm a b ∙ k.is_lesser

pub lesser_at_most : (a b : Number) → AtMost (lesser a b) a
lesser_at_most a b = record { is_lesser = lesser_comm (lesser a b) a ∙ sym (lesser_assoc a a b) ∙ ap (λ x. lesser x b) (lesser_idem a) }

-- what is at most two numbers is at most the lesser
pub lesser_least : {a b c : Number} → AtMost a b → AtMost a c → AtMost a (lesser b c)
lesser_least {a} {b} {c} h k = record { is_lesser = sym (lesser_assoc a b c) ∙ ap (λ x. lesser x c) h.is_lesser ∙ k.is_lesser }

sum_monotone_right : (a : Number) {b c : Number} → AtMost b c → AtMost (sum a b) (sum a c)
sum_monotone_right a {b} {c} h = record { is_lesser = sym (sum_lesser a b c) ∙ ap (sum a) h.is_lesser }

pub sum_monotone : {a b c d : Number} → AtMost a b → AtMost c d → AtMost (sum a c) (sum b d)
sum_monotone {a} {b} {c} {d} h k = at_most_trans (sum_monotone_right a k) (rw (sum_comm a d, sum_comm b d) (sum_monotone_right d h))

lesser_left_comm : (a b c : Number) → lesser a (lesser b c) ≡ lesser b (lesser a c)
lesser_left_comm a b c = sym (lesser_assoc a b c) ∙ ap (λ x. lesser x c) (lesser_comm a b) ∙ lesser_assoc b a c

pub lesser_monotone : {a b c d : Number} → AtMost a b → AtMost c d → AtMost (lesser a c) (lesser b d)
lesser_monotone {a} {b} {c} {d} h k =
    record {
      is_lesser =
          lesser_assoc a c (lesser b d) ∙ ap (lesser a) (lesser_left_comm c b d) ∙ sym (lesser_assoc a b (lesser c d)) ∙ ap₂ lesser h.is_lesser k.is_lesser;
    }

-- ---- numbers within the cap: every sum is one, and their ranks have their order

pub sum_within : (a b : Number) → WithinCap (sum a b)
sum_within never = λ b. tt
sum_within over = elim [ never ↦ tt | over ↦ tt | exact y ↦ tt ]
sum_within (exact x) = elim [ never ↦ tt | over ↦ tt | exact y ↦ by_cap WithinCap (x + y) (λ h. h) (λ h. tt) ]

pub lesser_within : (a b : Number) → WithinCap a → WithinCap b → WithinCap (lesser a b)
lesser_within never = λ b h k. k
lesser_within over = elim [ never ↦ λ h k. tt | over ↦ λ h k. tt | exact y ↦ λ h k. k ]
lesser_within (exact x) = elim [ never ↦ λ h k. h | over ↦ λ h k. h | exact y ↦ λ h k. omega arith ]

rank_lesser : (a b : Number) → WithinCap a → WithinCap b → rank (lesser a b) ≡ min (rank a) (rank b)
rank_lesser never = elim [ never ↦ λ h k. refl | over ↦ λ h k. refl | exact y ↦ λ h k. omega arith ]
rank_lesser over = elim [ never ↦ λ h k. refl | over ↦ λ h k. refl | exact y ↦ λ h k. omega arith ]
rank_lesser (exact x) = elim [ never ↦ λ h k. omega arith | over ↦ λ h k. omega arith | exact y ↦ λ h k. refl ]

pub rank_at_most : {a b : Number} → WithinCap a → WithinCap b → AtMost a b → rank a ≤ rank b
rank_at_most {a} {b} h k l = omega (arith, rank_lesser a b h k, ap rank l.is_lesser)

ranked_rank : (a : Number) → WithinCap a → ranked (rank a) ≡ a
ranked_rank never h = refl
ranked_rank over h = refl
ranked_rank (exact n) h = rw (le-leb n (rank over) (omega arith), ranked) (capped_exact n n refl h)

pub rank_injective : {a b : Number} → WithinCap a → WithinCap b → rank a ≡ rank b → a ≡ b
rank_injective {a} {b} h k e = sym (ranked_rank a h) ∙ ap ranked e ∙ ranked_rank b k

-- ---- the number of a rank

pub ranked_exact : (n : ℕ) → n ≤ largest → ranked n ≡ exact n
ranked_exact n h = ranked_rank (exact n) h

pub ranked_over : (n : ℕ) → n ≡ rank over → ranked n ≡ over
ranked_over n e = ap ranked e

pub ranked_never : (n : ℕ) → rank never ≤ n → ranked n ≡ never
ranked_never n h = rw (lt-leb n (rank over) (omega arith), ranked)

-- a rank is of an exact number, of over, or of never
by_rank : (P : Number → Type 0) (n : ℕ) → (n ≤ largest → P (exact n)) → (n ≡ rank over → P over) → (rank never ≤ n → P never) → P (ranked n)
by_rank P n exactly just above = go (leb n (rank over)) refl
  where
    go : (t : Bool) → leb n (rank over) ≡ t → P (elim t [ true ↦ capped n | false ↦ never ])
    go true e = by_cap P n exactly (λ h. just (omega (arith, leb-true n (rank over) e)))
    go false e = above (omega (arith, leb-false n (rank over) e))

-- the ranks above that of never are of never too
rank_ranked : (n : ℕ) → rank (ranked n) ≡ min n (rank never)
rank_ranked n = by_rank (λ a. rank a ≡ min n (rank never)) n (λ h. omega arith) (λ h. omega arith) (λ h. omega arith)

pub ranked_within : (n : ℕ) → WithinCap (ranked n)
ranked_within n = by_rank WithinCap n (λ h. h) (λ h. tt) (λ h. tt)

-- the lesser rank is of the lesser number
pub ranked_min : (m n : ℕ) → ranked (min m n) ≡ lesser (ranked m) (ranked n)
ranked_min m n =
    let both = lesser_within (ranked m) (ranked n) (ranked_within m) (ranked_within n) in
    let low = rank_lesser (ranked m) (ranked n) (ranked_within m) (ranked_within n) in
    rank_injective (ranked_within (min m n)) both (omega (arith, rank_ranked (min m n), rank_ranked m, rank_ranked n, low))

-- the ranks of exact numbers and of over add up, and what is above them is over's
pub ranked_low : (n : ℕ) → n < rank never → ranked n ≡ capped n
ranked_low n h = rw (le-leb n (rank over) (omega arith), ranked)

capped_min : (n : ℕ) → capped (min n (rank over)) ≡ capped n
capped_min n = elim (dec_le n (rank over)) [
  | yes low ↦ let same : min n (rank over) ≡ n = omega arith in ap capped same
  | no high ↦ capped_over (min n (rank over)) (omega arith) ∙ sym (capped_over n (omega arith))
]

pub ranked_sum : {m n r : ℕ} → m < rank never → n < rank never → r ≡ min (m + n) (rank over) → ranked r ≡ sum (ranked m) (ranked n)
ranked_sum {m} {n} h k e =
    ap ranked e ∙ ranked_low (min (m + n) (rank over)) (omega arith) ∙ capped_min (m + n) ∙ sym (ap₂ sum (ranked_low m h) (ranked_low n k) ∙ sum_capped m n)

-- ---- the test for the same number

pub same_refl : (a : Number) → same a a ≡ true
same_refl never = refl
same_refl over = refl
same_refl (exact n) = eq-eqb n n refl

pub same_true : (a b : Number) → same a b ≡ true → a ≡ b
same_true never = elim [ never ↦ λ h. refl | over ↦ λ h. absurd (false≢true h) | exact y ↦ λ h. absurd (false≢true h) ]
same_true over = elim [ never ↦ λ h. absurd (false≢true h) | over ↦ λ h. refl | exact y ↦ λ h. absurd (false≢true h) ]
same_true (exact x) = elim [ never ↦ λ h. absurd (false≢true h) | over ↦ λ h. absurd (false≢true h) | exact y ↦ λ h. ap exact (eqb-true x y h) ]

-- ---- the ways in which the code can go

pub sum_never_first : {a : Number} (b : Number) → a ≡ never → never ≡ sum a b
sum_never_first b e = sym (ap (λ x. sum x b) e)

pub sum_never_second : (a : Number) {b : Number} → b ≡ never → never ≡ sum a b
sum_never_second a e = sym (ap (sum a) e ∙ sum_never a)

pub never_sum : {a : Number} (b : Number) → a ≡ never → a ≡ sum a b
never_sum b e = e ∙ sym (ap (λ x. sum x b) e)

module _ {a b : Number} {x y : ℕ} (p : a ≡ exact x) (q : b ≡ exact y) where
  pub sum_exact : x + y ≤ largest → exact (x + y) ≡ sum a b
  sum_exact h = sym (ap₂ sum p q ∙ capped_exact (x + y) (x + y) refl h)

  pub sum_over : largest < x + y → over ≡ sum a b
  sum_over h = sym (ap₂ sum p q ∙ capped_over (x + y) h)
