-- Laws of text written by a writer, one part straight after the other.
use Rattle.std.specs.Prelude.{ℕ, zero, suc, ◌+◌, ◌/◌, ◌%◌, ◌≤◌, ◌<◌, min, ◌≡◌, refl, List, [], ◌∷◌, ◌++◌, length, drop, set, get_or}
use Rattle.std.specs.Borrow.{MutBor}
use Rattle.std.proofs.Common.{sym, ap, subst, ◌∙◌, arith, add-one, drop_of_length-le, drop-cons}
use Rattle.text.specs.declared.append.Writer.{Writer}
use Rattle.text.specs.Text.{decimal, end_of, each_text, list_text}
use Rattle.text.specs.Append.{largest, put}
use Rattle.text.specs.Writer.{Appends}
use Rattle.text.specs.PrintLaws.{decimal_one, decimal_more}
use Rattle.text.specs.AppendLaws.{adds_then, adds_none, next_is, past_counts}

-- ---- one part and then another

pub appends_then : {xs ys : List ℕ} {before mid now : Writer} → Appends xs before mid → Appends ys mid now → Appends (xs ++ ys) before now
appends_then v w = record { same = w.same ∙ v.same; adds = adds_then v.adds w.adds }

-- the same text in other words
pub appends_as : {xs ys : List ℕ} {before now : Writer} → xs ≡ ys → Appends xs before now → Appends ys before now
appends_as {before = before} {now = now} e v = subst (λ (bs : List ℕ). Appends bs before now) e v

pub appends_none : (w : Writer) → Appends [] w w
appends_none w = record { same = refl; adds = adds_none w.out.now w.at }

-- ---- a byte

pub appends_byte : {b end : ℕ} {w v : Writer} → v.out.ghost_name ≡ w.out.ghost_name → v.out.now ≡ set w.out.now w.at b → v.at ≡ w.at → end ≡ min (v.at + 1) largest → Appends (b ∷ []) w (record { out = v.out; at = end })
appends_byte {b} {end} {w} n o a e = record { same = n; adds = record { buffer = o; place = e ∙ ap (λ (k : ℕ). min (k + 1) largest) a ∙ next_is w.at } }

-- ---- a part at once: it stands in the buffer as far as there is room, and is counted

pub appends_put : {bs : List ℕ} {w v : Writer} {o : MutBor (List ℕ)} {end : ℕ} → v ≡ record { out = o; at = w.at } → o.ghost_name ≡ w.out.ghost_name → o.now ≡ put bs w.at w.out.now → w.at ≤ largest → end ≡ min (v.at + length bs) largest
    → Appends bs w (record { out = v.out; at = end })
appends_put {bs} {w} e n o l m = record {
  same = ap (λ (v : Writer). v.out.ghost_name) e ∙ n;
  adds = record { buffer = ap (λ (v : Writer). v.out.now) e ∙ o; place = m ∙ ap (λ (v : Writer). min (v.at + length bs) largest) e ∙ sym (past_counts bs w.at l) };
}

-- ---- a row of parts: what is left of it, and that writing it writes the whole

pub record Adding (whole rest : List ℕ) (before now : Writer) : Type 0 where
  pub on : {last : Writer} → Appends rest now last → Appends whole before last

pub adding_start : (whole : List ℕ) (w : Writer) → Adding whole whole w w
adding_start whole w = record { on = λ h. h }

pub adding_more : {whole rest : List ℕ} {before now last : Writer} (part more : List ℕ) → Adding whole rest before now → rest ≡ part ++ more → Appends part now last → Adding whole more before last
adding_more part more g e v = record { on = λ h. g.on (appends_as (sym e) (appends_then v h)) }

pub adding_end : {whole rest : List ℕ} {before now : Writer} → Adding whole rest before now → rest ≡ [] → Appends whole before now
adding_end {now = now} g e = g.on (appends_as (sym e) (appends_none now))

-- what is left of a slice
pub part_next : (xs : List ℕ) (i : ℕ) → i < length xs → drop i xs ≡ (get_or xs i 0 ∷ []) ++ drop (i + 1) xs
part_next xs i l = drop-cons xs i 0 l ∙ rw (add-one i)

-- ---- the digits of a number

pub digits_one : {n : ℕ} {before now : Writer} → n < 10 → Appends ((48 + n) ∷ []) before now → Appends (decimal n) before now
digits_one {n} l v = appends_as (sym (decimal_one n l)) v

pub digits_more : {n : ℕ} {before mid now : Writer} → 10 ≤ n → Appends (decimal (n / 10)) before mid → Appends ((48 + n % 10) ∷ []) mid now → Appends (decimal n) before now
digits_more {n} l v w = appends_as (sym (decimal_more n l)) (appends_then v w)

-- ---- the numbers of a list

-- what is left of a list's text before the number at an index: what parts it from the one before, if there is one, and what follows
abbrev pub left_of : ℕ → List ℕ → List ℕ
left_of zero xs = list_text xs
left_of (suc i) xs = end_of (drop (suc i) xs) ∷ each_text (drop (suc i) xs)

-- the number at an index, and what is left after it
number_left : (xs : List ℕ) (i : ℕ) → i < length xs → each_text (drop i xs) ≡ decimal (get_or xs i 0) ++ left_of (i + 1) xs
number_left xs i l = ap each_text (drop-cons xs i 0 l) ∙ rw (add-one i)

first_left : (xs : List ℕ) → 0 < length xs → left_of 0 xs ≡ each_text (drop 0 xs)
unfolding list_text
first_left [] l = absurd (omega arith)
first_left (x ∷ xs) l = refl

later_left : (xs : List ℕ) (i : ℕ) → 0 < i → i < length xs → left_of i xs ≡ 32 ∷ each_text (drop i xs)
later_left xs zero m l = absurd (omega arith)
later_left xs (suc i) m l = ap (λ (z : ℕ). z ∷ each_text (drop (suc i) xs)) (ap end_of (drop-cons xs (suc i) 0 l))

module _ {whole : List ℕ} {before now mid last : Writer} (xs : List ℕ) (i : ℕ) (l : i < length xs) (g : Adding whole (left_of i xs) before now) where
  -- the first number
  pub list_first : i ≡ 0 → mid ≡ now → Appends (decimal (get_or xs i 0)) mid last → Adding whole (left_of (i + 1) xs) before last
  list_first z e v =
      adding_more (decimal (get_or xs i 0)) (left_of (i + 1) xs) g (ap (λ (k : ℕ). left_of k xs) z ∙ first_left xs (omega arith) ∙ ap (λ (k : ℕ). each_text (drop k xs)) (sym z) ∙ number_left xs i l)
      (subst (λ (w : Writer). Appends (decimal (get_or xs i 0)) w last) e v)

  -- one that follows others
  pub list_next : {part : Writer} → 0 < i → mid ≡ part → Appends (32 ∷ []) now part → Appends (decimal (get_or xs i 0)) mid last → Adding whole (left_of (i + 1) xs) before last
  list_next m e w v =
      adding_more ((32 ∷ []) ++ decimal (get_or xs i 0)) (left_of (i + 1) xs) g (later_left xs i m l ∙ ap (λ (ys : List ℕ). 32 ∷ ys) (number_left xs i l))
      (appends_then w (subst (λ (w : Writer). Appends (decimal (get_or xs i 0)) w last) e v))

-- the newline
none_left : (xs : List ℕ) (i : ℕ) → length xs ≡ i → left_of i xs ≡ 10 ∷ []
unfolding list_text
none_left [] zero l = refl
none_left (x ∷ xs) zero l = absurd (omega arith)
none_left xs (suc i) l = let far : length xs ≤ suc i = omega arith in ap (λ (ys : List ℕ). end_of ys ∷ each_text ys) (drop_of_length-le xs far)

pub list_end : {whole : List ℕ} {before now last : Writer} (xs : List ℕ) (i : ℕ) → length xs ≡ i → Adding whole (left_of i xs) before now → Appends (10 ∷ []) now last → Appends whole before last
list_end xs i l g w = g.on (appends_as (sym (none_left xs i l)) w)
