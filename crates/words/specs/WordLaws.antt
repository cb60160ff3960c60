-- Laws of facts and partial states in words, from the bytes of a file.
use Rattle.std.specs.Prelude.{ℕ, zero, suc, ◌+◌, ◌*◌, ◌-◌, ◌/◌, ◌%◌, ◌≤◌, ◌<◌, ◌≡◌, refl, Bool, true, false, List, [], ◌∷◌, ◌++◌, ltb, length, get_or, take, drop}
use Rattle.std.proofs.Common.{sym, ap₂, ◌∙◌, arith, add-one, drop_of_length-le, drop-cons, ltb-true, ltb-false}
use Rattle.std.proofs.Math.Path.{ap}
use Rattle.std.specs.Int.Count.{ones}
use Rattle.facts.specs.Read.{accepted, refused}
use Rattle.facts.specs.Partial.{Partial, above, partial_at, standing_at}
use Rattle.facts.specs.Fields.{read_number}
use Rattle.facts.specs.BitsLaws.{odd_bit, odd_half, first_even, first_odd, first_cut, above_even, above_odd, cut_values}
use Rattle.facts.specs.InPlaceLaws.{standing_read, empty_read}
use Rattle.text.specs.declared.append.Writer.{Writer}
use Rattle.text.specs.Append.{bytes}
use Rattle.text.specs.Writer.{Appends}
use Rattle.text.specs.WriterLaws.{Adding, adding_start, adding_more, adding_end}
use Rattle.words.specs.Words.{fact_text, bit_text, bits_text, facts_text, some_text, partial_text}

-- the file f
module _ (f : List ℕ) where
  -- ---- one variable

  -- There is no value for its bit.
  pub bit_cut : (v b at : ℕ) → length f ≤ at → [] ≡ bit_text v b (drop at f)
  bit_cut v zero at l = refl
  bit_cut v (suc b) at l = rw (drop_of_length-le f {i = at} l)

  -- Its bit stands, and there is one.
  pub bit_fact : (v b at : ℕ) → (b ≡ 0 → ⊥) → at < length f → bytes " " ++ fact_text v (get_or f at 0) ≡ bit_text v b (drop at f)
  bit_fact v zero at h l = absurd (h refl)
  bit_fact v (suc b) at h l = rw (drop-cons f at 0 l)

-- ---- texts of variables by their bits

-- a variable whose bit does not stand has no text, and of the values only the first counts
pub record Bitwise (text : ℕ → ℕ → List ℕ → List ℕ) : Type 0 where
  pub none : (v : ℕ) (values : List ℕ) → text v 0 values ≡ []
  pub first : (v d : ℕ) (xs ys : List ℕ) → text v 1 (d ∷ xs) ≡ text v 1 (d ∷ ys)

pub facts_bitwise : Bitwise bit_text
facts_bitwise = record { none = λ v values. refl; first = λ v d xs ys. refl }

-- the file f
module _ (f : List ℕ) {text : ℕ → ℕ → List ℕ → List ℕ} (bitwise : Bitwise text) where
  module _ (n v k at : ℕ) where
    -- The bit of variable v does not stand; it stands; or the file ends before its value.
    bits_even : bits_text text (suc n) v (standing_at f (2 * k) at) ≡ text v 0 (drop at f) ++ bits_text text n (suc v) (standing_at f k at)
    bits_even =
        ap₂ (λ (x y : List ℕ). x ++ y) (first_even (text v) f k at ∙ bitwise.none v (take (ones k) (drop at f)) ∙ sym (bitwise.none v (drop at f))) (ap (bits_text text n (suc v)) (above_even f k at))

    bits_odd : at < length f → bits_text text (suc n) v (standing_at f (2 * k + 1) at) ≡ text v 1 (drop at f) ++ bits_text text n (suc v) (standing_at f k (at + 1))
    bits_odd l =
        ap₂ (λ (x y : List ℕ). x ++ y)
        (first_odd (text v) f k at l ∙ bitwise.first v (get_or f at 0) (take (ones k) (drop (at + 1) f)) (drop (suc at) f) ∙ ap (text v 1) (sym (drop-cons f at 0 l)))
        (ap (bits_text text n (suc v)) (above_odd f k at l))

    bits_cut : length f ≤ at → bits_text text (suc n) v (standing_at f (2 * k + 1) at) ≡ text v 1 (drop at f) ++ bits_text text n (suc v) (standing_at f k (at + 1))
    bits_cut l =
        let bare : above (record { map = 2 * k + 1; values = [] }) ≡ record { map = k; values = [] } = rw (odd_bit k, odd_half k) in
        let none : above (standing_at f (2 * k + 1) at) ≡ standing_at f k (at + 1) = ap above (cut_values f (2 * k + 1) at l) ∙ bare ∙ sym (cut_values f k (at + 1) (omega arith)) in
        ap₂ (λ (x y : List ℕ). x ++ y) (first_cut (text v) f k at l ∙ ap (text v 1) (sym (drop_of_length-le f l))) (ap (bits_text text n (suc v)) none)

  -- The text of variable v, and those of the variables above it.
  bits_next : (n v m at k b next : ℕ) → b ≡ m % 2 → k ≡ m / 2 → next ≡ at + b
      → bits_text text (suc n) v (standing_at f m at) ≡ text v b (drop at f) ++ bits_text text n (suc v) (standing_at f k next)
  bits_next n v m at k zero next e h g = let even : m ≡ 2 * k = omega arith in let same : next ≡ at = omega arith in rw (even, same) (bits_even n v k at)
  bits_next n v m at k (suc b) next e h g =
      let odd : m ≡ 2 * k + 1 = omega arith in
      let one : b ≡ 0 = omega arith in
      let up : next ≡ at + 1 = omega arith in
      rw (odd, one, up) (go (ltb at (length f)) refl)
    where
      go : (t : Bool) → ltb at (length f) ≡ t → bits_text text (suc n) v (standing_at f (2 * k + 1) at) ≡ text v 1 (drop at f) ++ bits_text text n (suc v) (standing_at f k (at + 1))
      go true t = bits_odd n v k at (ltb-true at (length f) t)
      go false t = bits_cut n v k at (ltb-false at (length f) t)

-- of n variables those from v on are left, whose map is m and whose values begin at `place`
pub record BitsLeft (f : List ℕ) (text : ℕ → ℕ → List ℕ → List ℕ) (whole : List ℕ) (before now : Writer) (n v m place : ℕ) : Type 0 where
  pub adding : Adding whole (bits_text text (n - v) v (standing_at f m place)) before now

-- At first all are left.
pub bits_start : (f : List ℕ) (text : ℕ → ℕ → List ℕ → List ℕ) (n m place : ℕ) (out : Writer) → BitsLeft f text (bits_text text n 0 (standing_at f m place)) out out n 0 m place
bits_start f text n m place out = let e : n - 0 ≡ n = omega arith in record { adding = rw e (adding_start (bits_text text n 0 (standing_at f m place)) out) }

module _ {f : List ℕ} {text : ℕ → ℕ → List ℕ → List ℕ} {whole : List ℕ} {before now : Writer} {n v m place : ℕ} (g : BitsLeft f text whole before now n v m place) where
  -- Then the text of variable v is written.
  pub bits_more : {last : Writer} {k b next : ℕ} → Bitwise text → b ≡ m % 2 → k ≡ m / 2 → next ≡ place + b → v < n → Appends (text v b (drop place f)) now last
      → BitsLeft f text whole before last n (v + 1) k next
  bits_more {k = k} {b = b} {next = next} bitwise e h q l w = record {
    adding = adding_more (text v b (drop place f)) (bits_text text (n - (v + 1)) (v + 1) (standing_at f k next)) g.adding
        (let s : n - v ≡ suc (n - (v + 1)) = omega arith in
        ap (λ (j : ℕ). bits_text text j v (standing_at f m place)) s ∙ bits_next f bitwise (n - (v + 1)) v m place k b next e h q
        ∙ ap (λ (j : ℕ). text v b (drop place f) ++ bits_text text (n - (v + 1)) j (standing_at f k next)) (sym (add-one v))) w;
  }

  -- At last none is left.
  pub bits_end : n ≤ v → Appends whole before now
  bits_end l = adding_end g.adding (let e : n - v ≡ 0 = omega arith in rw e)

-- ---- partial states of the file f

module _ (f : List ℕ) where
  -- No bit stands.
  some_none : (p : Partial) (n : ℕ) → p.map ≡ 0 → bytes " none" ≡ partial_text n p
  unfolding partial_text
  some_none p n e = rw e

  module _ (n at : ℕ) where
    -- There is no map, or an empty one.
    pub partial_cut : {k p : ℕ} → read_number f 8 at ≡ refused k p → bytes " none" ≡ partial_text n (partial_at f at)
    partial_cut h = some_none (partial_at f at) n (ap (λ (p : Partial). p.map) (empty_read f at h))

    pub partial_none : {map : ℕ} → read_number f 8 at ≡ accepted map → map ≡ 0 → bytes " none" ≡ partial_text n (partial_at f at)
    unfolding standing_at
    partial_none h e = some_none (partial_at f at) n (ap (λ (p : Partial). p.map) (standing_read f at h) ∙ e)

    -- A bit stands.
    some_facts : (p : Partial) (b : ℕ) → (b ≡ 0 → ⊥) → facts_text n 0 p ≡ some_text b (facts_text n 0 p)
    some_facts p zero e = absurd (e refl)
    some_facts p (suc b) e = refl

    pub partial_some : {map : ℕ} → read_number f 8 at ≡ accepted map → (map ≡ 0 → ⊥) → facts_text n 0 (standing_at f map (at + 8)) ≡ partial_text n (partial_at f at)
    unfolding partial_text standing_at
    partial_some {map} h e = some_facts (standing_at f map (at + 8)) map e ∙ ap (partial_text n) (sym (standing_read f at h))
