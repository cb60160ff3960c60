-- Laws of places: what is wrong lies in the entry whose number is that of the numbers before it.
use Rattle.std.specs.Prelude.{ℕ, suc, ◌+◌, ◌-◌, ◌*◌, ◌≤◌, ◌<◌, min, ◌≡◌, refl, Bool, true, false, not, ◌&&◌, List, [], ◌∷◌, ◌⊎◌, leb, ltb, eqb, length, take, drop, get_or}
use Rattle.std.proofs.Common.{sym, ◌∙◌, inl, inr, arith, drop_of_length-le, leb-true, ne_eqb}
use Rattle.std.proofs.Math.Path.{ap, subst}
use Rattle.std.proofs.Math.Bool.{and-false, and-true, and-eq-true_iff}
use Rattle.text.specs.Text.{Parsed, parsed, stray, large, with_parsed, Standing, between, within, so_far, began, ended, blank, digit, numbers_from, numbers_of, count_of}
use Rattle.text.specs.Place.{one_if, newlines, entries_end, goes_on, line_at, entry_at, begun_at}
use Rattle.text.specs.ScanLaws.{rest_cons}
use Rattle.text.specs.TokenLaws.{take_room}

-- ---- the ways that a byte can go, whatever follows

data Way (most : ℕ) (place : Standing) (q b : ℕ) : Type 0 where
  adds : (n : ℕ) → blank b ≡ false → ((xs : List ℕ) → numbers_from most place q (b ∷ xs) ≡ numbers_from most (within n (began place q)) (q + 1) xs) → Way most place q b
  over : blank b ≡ false → ((xs : List ℕ) → numbers_from most place q (b ∷ xs) ≡ large (began place q)) → Way most place q b
  ends : blank b ≡ true → ((xs : List ℕ) → numbers_from most place q (b ∷ xs) ≡ with_parsed (ended place) (numbers_from most between (q + 1) xs)) → Way most place q b
  strays : blank b ≡ false → ((xs : List ℕ) → numbers_from most place q (b ∷ xs) ≡ stray q) → Way most place q b

-- a digit is no blank
digit_no_blank : (b : ℕ) → digit b ≡ true → blank b ≡ false
unfolding digit blank
digit_no_blank b d =
    let l : 48 ≤ b = leb-true 48 b ((and-eq-true_iff (leb 48 b) (ltb b 58)).0 d).0 in
    rw (ne_eqb b 32 (omega arith), ne_eqb b 9 (omega arith), ne_eqb b 10 (omega arith), ne_eqb b 13 (omega arith))

way : (most : ℕ) (place : Standing) (q b : ℕ) → Way most place q b
way most place q b = go (digit b) refl (leb (10 * so_far place + (b - 48)) most) refl (blank b) refl
  where
    go : (t : Bool) → digit b ≡ t → (m : Bool) → leb (10 * so_far place + (b - 48)) most ≡ m → (s : Bool) → blank b ≡ s → Way most place q b
    go true d true l s e = adds (10 * so_far place + (b - 48)) (digit_no_blank b d) (λ xs. rw (d, numbers_from, l))
    go true d false l s e = over (digit_no_blank b d) (λ xs. rw (d, numbers_from, l))
    go false d m l true e = ends e (λ xs. rw (d, numbers_from, e))
    go false d m l false e = strays e (λ xs. rw (d, numbers_from, e))

-- ---- what is read before what is wrong

-- whether a reader stands within a number
abbrev inside : Standing → Bool
inside between = false
inside (within n s) = true

-- the numbers of bytes are as many as the entries that end among them, and the one that goes on
record Reads (most : ℕ) (place : Standing) (q : ℕ) (xs : List ℕ) : Type 0 where
  count : with_parsed length (numbers_from most place q xs) ≡ parsed (entries_end (inside place) xs + one_if (goes_on (inside place) xs))

reads_none : (most : ℕ) (place : Standing) (q : ℕ) → Reads most place q []
reads_none most between q = record { count = refl }
reads_none most (within n s) q = record { count = refl }

-- the number that ends at a blank is one more
ended_count : (place : Standing) (r : Parsed (List ℕ)) → with_parsed length (with_parsed (ended place) r) ≡ with_parsed (λ (k : ℕ). one_if (inside place) + k) (with_parsed length r)
ended_count between (parsed xs) = ap parsed (omega arith)
ended_count (within n s) (parsed xs) = ap parsed (omega arith)
ended_count place (stray p) = refl
ended_count place (large p) = refl

module _ {most : ℕ} {place : Standing} {q b : ℕ} {xs : List ℕ} where
  reads_digit : {n s : ℕ} → blank b ≡ false → numbers_from most place q (b ∷ xs) ≡ numbers_from most (within n s) (q + 1) xs → Reads most (within n s) (q + 1) xs → Reads most place q (b ∷ xs)
  reads_digit e h r = record { count = ap (with_parsed length) h ∙ r.count ∙ ap parsed (rw (e, and-false (inside place)) (omega arith)) }

  reads_blank : blank b ≡ true → numbers_from most place q (b ∷ xs) ≡ with_parsed (ended place) (numbers_from most between (q + 1) xs) → Reads most between (q + 1) xs → Reads most place q (b ∷ xs)
  reads_blank e h r = record {
    count = ap (with_parsed length) h
        ∙ ended_count place (numbers_from most between (q + 1) xs)
        ∙ ap (with_parsed (λ (k : ℕ). one_if (inside place) + k)) r.count
        ∙ ap parsed (rw (e, and-true (inside place)) (omega arith));
  }

-- the offset p is k bytes on, and these have as many numbers as entries
record Before (most : ℕ) (place : Standing) (q : ℕ) (text : List ℕ) (p k : ℕ) : Type 0 where
  far : p ≡ q + k
  reads : Reads most place q (take k text)

-- the number within which a reader stands begins at p
abbrev Begins : Standing → ℕ → Type 0
Begins between p = ⊥
Begins (within n s) p = s ≡ p

-- what is known of a text that has something wrong: what is large begins an entry
abbrev Told : ℕ → Standing → ℕ → List ℕ → Parsed (List ℕ) → Type 0
Told most place q text (parsed xs) = Unit {0}
Told most place q text (stray p) = (k : ℕ) × Before most place q text p k
Told most place q text (large p) = Begins place p ⊎ ((k : ℕ) × Before most place q text p k × (goes_on (inside place) (take k text) ≡ false))

-- a number that is large begins where the reader stands, or began before
told_large : (most : ℕ) (place : Standing) (q : ℕ) (text : List ℕ) {p : ℕ} → began place q ≡ p → Told most place q text (large p)
told_large most between q text e = inr (0, record { far = omega arith; reads = reads_none most between q }, refl)
told_large most (within n s) q text e = inl e

module _ (most : ℕ) (place : Standing) (q b : ℕ) (text : List ℕ) where
  told_digit : {n : ℕ} (r : Parsed (List ℕ)) → blank b ≡ false → ((xs : List ℕ) → numbers_from most place q (b ∷ xs) ≡ numbers_from most (within n (began place q)) (q + 1) xs)
      → Told most (within n (began place q)) (q + 1) text r → Told most place q (b ∷ text) r
  told_digit (parsed xs) e h t = tt
  told_digit (stray p) e h (k, t) = (suc k, record { far = omega (arith, t.far); reads = reads_digit e (h (take k text)) t.reads })
  told_digit (large p) e h (inl s) = told_large most place q (b ∷ text) s
  told_digit (large p) e h (inr (k, t, g)) = inr (suc k, record { far = omega (arith, t.far); reads = reads_digit e (h (take k text)) t.reads }, ap (λ (s : Bool). goes_on (not s) (take k text)) e ∙ g)

  told_blank : (r : Parsed (List ℕ)) → blank b ≡ true → ((xs : List ℕ) → numbers_from most place q (b ∷ xs) ≡ with_parsed (ended place) (numbers_from most between (q + 1) xs))
      → Told most between (q + 1) text r → Told most place q (b ∷ text) (with_parsed (ended place) r)
  told_blank (parsed xs) e h t = tt
  told_blank (stray p) e h (k, t) = (suc k, record { far = omega (arith, t.far); reads = reads_blank e (h (take k text)) t.reads })
  told_blank (large p) e h (inl s) = absurd s
  told_blank (large p) e h (inr (k, t, g)) = inr (suc k, record { far = omega (arith, t.far); reads = reads_blank e (h (take k text)) t.reads }, ap (λ (s : Bool). goes_on (not s) (take k text)) e ∙ g)

  told_byte : Way most place q b → ((n : ℕ) → Told most (within n (began place q)) (q + 1) text (numbers_from most (within n (began place q)) (q + 1) text))
      → Told most between (q + 1) text (numbers_from most between (q + 1) text) → Told most place q (b ∷ text) (numbers_from most place q (b ∷ text))
  told_byte (adds n e h) d c = subst (Told most place q (b ∷ text)) (sym (h text)) (told_digit (numbers_from most (within n (began place q)) (q + 1) text) e h (d n))
  told_byte (over e h) d c = subst (Told most place q (b ∷ text)) (sym (h text)) (told_large most place q (b ∷ text) refl)
  told_byte (ends e h) d c = subst (Told most place q (b ∷ text)) (sym (h text)) (told_blank (numbers_from most between (q + 1) text) e h c)
  told_byte (strays e h) d c = subst (Told most place q (b ∷ text)) (sym (h text)) (0, record { far = omega arith; reads = reads_none most place q })

told : (most : ℕ) (place : Standing) (q : ℕ) (text : List ℕ) → Told most place q text (numbers_from most place q text)
told most place q [] = tt
told most place q (b ∷ text) = told_byte most place q b text (way most place q b) (λ n. told most (within n (began place q)) (q + 1) text) (told most between (q + 1) text)

-- ---- the laws

module _ (most : ℕ) (text : List ℕ) {p : ℕ} where
  -- The bytes before a stray one have a number for each entry before its own, and one for its own if that has begun.
  pub stray_entry : numbers_of most text ≡ stray p → count_of most (take p text) ≡ parsed (entry_at p text + one_if (begun_at p text))
  unfolding numbers_of count_of entry_at begun_at
  stray_entry h =
      let (k, t) = subst (Told most between 0 text) h (told most between 0 text) in
      let same : p ≡ k = omega (arith, t.far) in
      rw same t.reads.count

  -- Those before a number above the bound have a number for each entry before its own, and it begins there.
  pub large_entry : numbers_of most text ≡ large p → (count_of most (take p text) ≡ parsed (entry_at p text)) × (begun_at p text ≡ false)
  unfolding numbers_of count_of entry_at begun_at
  large_entry h = go (subst (Told most between 0 text) h (told most between 0 text))
    where
      go : Told most between 0 text (large p) → (count_of most (take p text) ≡ parsed (entry_at p text)) × (begun_at p text ≡ false)
      go (inl s) = absurd s
      go (inr (k, t, g)) =
          let same : p ≡ k = omega (arith, t.far) in
          rw same (t.reads.count ∙ ap parsed (rw g (omega arith)), g)

-- ---- places counted byte by byte

-- what is counted before the index i and what is counted from there on is what is counted of all
pub record Placing (text : List ℕ) (line entry : ℕ) (inside : Bool) (i : ℕ) : Type 0 where
  pub few_lines : line ≤ i + 1
  pub few_entries : entry ≤ i
  pub lines : line + newlines (drop i text) ≡ 1 + newlines text
  pub entries : entry + entries_end inside (drop i text) ≡ entries_end false text

pub placing_start : (text : List ℕ) → Placing text 1 0 false 0
placing_start text = record { few_lines = omega arith; few_entries = omega arith; lines = refl; entries = omega arith }

one_most : (t : Bool) → one_if t ≤ 1
one_most true = omega arith
one_most false = omega arith

module _ {text : List ℕ} {line entry : ℕ} {inside : Bool} {i : ℕ} (g : Placing text line entry inside i) where
  pub placing_next : {l e : ℕ} {s : Bool} → i < length text → s ≡ blank (get_or text i 0) → l ≡ one_if (eqb (get_or text i 0) 10) → e ≡ one_if (inside && s) → Placing text (line + l) (entry + e) (not s) (i + 1)
  placing_next {s = s} before is l e =
      let rest = rest_cons text i before in
      let count : entries_end inside (drop i text) ≡ one_if (inside && s) + entries_end (not s) (drop (i + 1) text) = rw is (ap (entries_end inside) rest) in
      record {
        few_lines = omega (arith, g.few_lines, one_most (eqb (get_or text i 0) 10));
        few_entries = omega (arith, g.few_entries, one_most (inside && s));
        lines = omega (arith, g.lines, ap newlines rest);
        entries = omega (arith, g.entries);
      }

  pub placing_lines : length text ≤ i → line ≡ 1 + newlines text
  placing_lines l = omega (arith, g.lines, ap newlines (drop_of_length-le text l))

  pub placing_entries : length text ≤ i → entry ≡ entries_end false text
  placing_entries l = omega (arith, g.entries, ap (entries_end inside) (drop_of_length-le text l))

-- the bytes before p, of a text that may be shorter
pub line_within : (p : ℕ) (text : List ℕ) {n line : ℕ} → n ≡ min p (length text) → line ≡ 1 + newlines (take n text) → line ≡ line_at p text
unfolding line_at
line_within p text {n} e h = h ∙ ap (λ (bs : List ℕ). 1 + newlines bs) (take_room text n p (omega arith))

pub entry_within : (p : ℕ) (text : List ℕ) {n entry : ℕ} → n ≡ min p (length text) → entry ≡ entries_end false (take n text) → entry ≡ entry_at p text
unfolding entry_at
entry_within p text {n} e h = h ∙ ap (entries_end false) (take_room text n p (omega arith))
