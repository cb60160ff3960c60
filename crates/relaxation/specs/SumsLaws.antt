-- Laws of sums of ranks that are not cut off: what they come to is the sum of the numbers, the lesser of two is the lesser number, and a table of such ranks.
use Rattle.std.specs.Prelude.{◌≡◌, refl, ℕ, ◌+◌, ◌≤◌, ◌<◌, min, List, length, get_or, set, replicate}
use Rattle.std.proofs.Common.{sym, ap, ap₂, ◌∙◌, subst, lt_of_not-le, arith, get_or-set_same, get_or-set_other, le-leb}
use Rattle.std.proofs.Math.Decide.{dec_le, ℕ_discrete}
use Rattle.std.proofs.lemmas.Bool.{lt-leb}
use Rattle.estimate.specs.Number.{never, over, capped, sum, lesser, rank, ranked}
use Rattle.estimate.specs.NumberLaws.{sum_never, ranked_low, ranked_never, ranked_min, ranked_sum}
use Rattle.taskfile.specs.Task.{max_weight}
use Rattle.relaxation.specs.PassInPlaceLaws.{zeros_at}
use Rattle.relaxation.specs.Sums.{far, settled_rank, Settled, low, high, Apart}

pub settled_low : (n : ℕ) → n < far → settled_rank n ≡ min n (rank over)
unfolding settled_rank
settled_low n l = rw (lt-leb far n l, settled_rank)

pub settled_high : (n : ℕ) → far ≤ n → settled_rank n ≡ far
unfolding settled_rank
settled_high n l = rw (le-leb far n l, settled_rank)

pub settled_rank_lem : (n : ℕ) → Settled (settled_rank n)
settled_rank_lem n = elim (dec_le far n) [ yes h ↦ high (settled_high n h) | no l ↦ low (omega (arith, settled_low n (lt_of_not-le l))) ]

-- far above all is never
pub far_never : (n : ℕ) → far ≤ n → ranked (settled_rank n) ≡ never
far_never n h = ap ranked (settled_high n h) ∙ ranked_never far (omega arith)

-- the lesser of two sums
settled_min : (m n : ℕ) → settled_rank (min m n) ≡ min (settled_rank m) (settled_rank n)
settled_min m n = elim (dec_le far m) [
  | yes p ↦ elim (dec_le far n) [
    | yes q ↦ omega (arith, settled_high (min m n) (omega arith), settled_high m p, settled_high n q)
    | no q ↦ omega (arith, settled_low (min m n) (omega arith), settled_high m p, settled_low n (lt_of_not-le q))
  ]
  | no p ↦ elim (dec_le far n) [
    | yes q ↦ omega (arith, settled_low (min m n) (omega arith), settled_low m (lt_of_not-le p), settled_high n q)
    | no q ↦ omega (arith, settled_low (min m n) (omega arith), settled_low m (lt_of_not-le p), settled_low n (lt_of_not-le q))
  ]
]

pub settled_lesser : (m n : ℕ) {r : ℕ} → r ≡ min m n → ranked (settled_rank r) ≡ lesser (ranked (settled_rank m)) (ranked (settled_rank n))
settled_lesser m n e = ap (λ (r : ℕ). ranked (settled_rank r)) e ∙ ap ranked (settled_min m n) ∙ ranked_min (settled_rank m) (settled_rank n)

-- a number, a weight and the entry of a table come to their sum
pub settled_sum : (number w entry : ℕ) → number < rank never → w ≤ max_weight → Settled entry → ranked (settled_rank (number + w + entry)) ≡ sum (capped w) (sum (ranked number) (ranked entry))
settled_sum number w entry l small (low h) =
    let both : ranked (min (number + entry) (rank over)) ≡ sum (ranked number) (ranked entry) = ranked_sum {m = number} {n = entry} {r = min (number + entry) (rank over)} l (omega arith) refl in
    ap ranked (settled_low (number + w + entry) (omega arith))
    ∙ ranked_sum {m = w} {n = min (number + entry) (rank over)} {r = min (number + w + entry) (rank over)} (omega arith) (omega arith) (omega arith)
    ∙ ap₂ sum (ranked_low w (omega arith)) both
settled_sum number w entry l small (high e) =
    let none : ranked entry ≡ never = ranked_never entry (omega (arith, e)) in
    far_never (number + w + entry) (omega (arith, e)) ∙ sym (ap (λ a. sum (capped w) (sum (ranked number) a)) none ∙ ap (sum (capped w)) (sum_never (ranked number)) ∙ sum_never (capped w))

-- ---- tables

pub apart_start : (n : ℕ) → Apart (replicate n 0)
apart_start n = record { at = λ t. low (omega (arith, zeros_at n t)) }

pub apart_set : {table : List ℕ} {k e : ℕ} → Apart table → Settled e → k < length table → Apart (set table k e)
apart_set {table} {k} {e} a s l = record { at = λ t. go t (ℕ_discrete t k) }
  where
    go : (t : ℕ) → Dec (t ≡ k) → Settled (get_or (set table k e) t 0)
    go t (yes same) = subst Settled (sym (ap (λ (t : ℕ). get_or (set table k e) t 0) same ∙ get_or-set_same table k e 0 l)) s
    go t (no other) = subst Settled (sym (get_or-set_other table k t e 0 other)) (a.at t)
