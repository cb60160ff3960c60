-- Laws of numbers and partial states in place, by what reading them says.
use Rattle.std.specs.Prelude.{◌≡◌, ℕ, ◌+◌, ◌≤◌, ◌<◌, List, length, get_or, set}
use Rattle.std.proofs.Math.Path.{sym, ap}
use Rattle.std.proofs.Common.{◌∙◌, eq-or-lt_of_le, arith, inl, inr, get_or-set_same, get_or-set_other}
use Rattle.std.specs.Int.Count.{ones}
use Rattle.std.proofs.Math.ListN.{get_or-eq_default}
use Rattle.facts.specs.Read.{Read, accepted, refused}
use Rattle.facts.specs.Bytes.{number_at}
use Rattle.facts.specs.Partial.{Partial, empty, partial_bytes, standing_at, partial_at, past_partial, Alike, equal, beyond}
use Rattle.facts.specs.PartialLaws.{partial_here, partial_cut}
use Rattle.facts.specs.Fields.{read_number, word_at}
use Rattle.facts.specs.FieldLaws.{number_reads, number_read, number_short, number_ends}

module _ (f : List ℕ) (at : ℕ) where
  pub word_here : {n : ℕ} → read_number f 2 at ≡ accepted n → word_at f at ≡ n
  unfolding word_at
  word_here h = rw (h, word_at)

  pub word_cut : {n p : ℕ} → read_number f 2 at ≡ refused n p → word_at f at ≡ 0
  unfolding word_at
  word_cut h = rw (h, word_at)

  pub word_is : {w : ℕ} → at + 2 ≤ length f → number_at 2 f at ≡ w → word_at f at ≡ w
  word_is h e = word_here (number_reads f 2 at h ∙ ap accepted e)

  pub standing_read : {map : ℕ} → read_number f 8 at ≡ accepted map → partial_at f at ≡ standing_at f map (at + 8)
  standing_read h = let n = number_read f 8 at h in partial_here f at n.fits ∙ ap (λ (map : ℕ). standing_at f map (at + 8)) n.value

  pub empty_read : {n p : ℕ} → read_number f 8 at ≡ refused n p → partial_at f at ≡ empty
  empty_read h = partial_cut f at (number_short f 8 at h)

  pub bytes_here : {map : ℕ} → read_number f 8 at ≡ accepted map → partial_bytes (partial_at f at) ≡ 8 + ones map
  unfolding standing_at
  bytes_here h = rw (standing_read h)

  pub bytes_cut : {n p : ℕ} → read_number f 8 at ≡ refused n p → partial_bytes (partial_at f at) ≡ 8
  unfolding ones
  bytes_cut h = rw (empty_read h)

  pub past_is : {n : ℕ} → n ≡ partial_bytes (partial_at f at) → at + n ≡ past_partial f at
  unfolding past_partial
  past_is e = ap (λ (n : ℕ). at + n) e

  pub past_here : {map : ℕ} → read_number f 8 at ≡ accepted map → past_partial f at ≡ at + 8 + ones map
  unfolding past_partial
  past_here h = omega (arith, bytes_here h)

  pub past_cut : {n p : ℕ} → read_number f 8 at ≡ refused n p → past_partial f at ≡ at + 8
  unfolding past_partial
  past_cut h = omega (arith, bytes_cut h)

  pub past_read : {p : Partial} {e : ℕ} → p ≡ partial_at f at → e ≡ at + partial_bytes p → past_partial f at ≡ e
  unfolding past_partial
  past_read p n = ap (λ (x : Partial). at + partial_bytes x) (sym p) ∙ sym n

-- ---- offsets at which the same stands

module _ (f : List ℕ) {x y : ℕ} (a : Alike f x y) where
  pub alike_partial : partial_at f x ≡ partial_at f y
  alike_partial = elim a [ equal e ↦ ap (partial_at f) e | beyond p q ↦ partial_cut f x (omega arith) ∙ sym (partial_cut f y (omega arith)) ]

  pub alike_past : Alike f (past_partial f x) (past_partial f y)
  unfolding past_partial
  alike_past = elim a [ equal e ↦ equal (ap (past_partial f) e) | beyond p q ↦ beyond (omega arith) (omega arith) ]

  pub alike_word : word_at f x ≡ word_at f y
  alike_word = elim a [ equal e ↦ ap (word_at f) e | beyond p q ↦ word_cut f x (number_ends f 2 x (omega arith)) ∙ sym (word_cut f y (number_ends f 2 y (omega arith))) ]

  pub alike_byte : (k : ℕ) → get_or f (x + k) 0 ≡ get_or f (y + k) 0
  alike_byte k = elim a [ equal e ↦ ap (λ (x : ℕ). get_or f (x + k) 0) e | beyond p q ↦ get_or-eq_default f 0 (omega arith) ∙ sym (get_or-eq_default f 0 (omega arith)) ]

-- A list of offsets that is noted one after the other: what holds of each offset up to here holds with one more noted.
pub marks_more : (R : ℕ → Read ℕ) (offsets : List ℕ) (i at : ℕ) → i < length offsets → R i ≡ accepted at → ((j : ℕ) → j < i → R j ≡ accepted (get_or offsets j 0))
    → (j : ℕ) → j < i + 1 → R j ≡ accepted (get_or (set offsets i at) j 0)
marks_more R offsets i at l e h j m =
    let n : j ≤ i = omega arith in
    elim (eq-or-lt_of_le n) [
      | inl q ↦ rw (q, get_or-set_same offsets i at 0 l) e
      | inr k ↦ rw (get_or-set_other offsets i j at 0 (λ q. omega arith)) (h j k)
    ]
