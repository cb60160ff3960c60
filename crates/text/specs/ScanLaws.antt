-- Laws of reading numbers: one for each way that a byte can go.
use Rattle.std.specs.Char.{is_ascii_digit}
use Rattle.std.specs.Prelude.{ℕ, Bool, leb, ltb, ◌&&◌, suc, ◌+◌, ◌-◌, ◌*◌, ◌≤◌, ◌<◌, ◌≡◌, refl, true, false, List, [], ◌∷◌, length, drop, get_or}
use Rattle.std.proofs.Common.{sym, ap, ◌∙◌, arith, ltb-true, ltb-false, leb-true, leb-false, drop_of_length-le, drop-cons, le-leb}
use Rattle.std.proofs.lemmas.Bool.{lt-leb}
use Rattle.text.specs.Text.{Parsed, parsed, stray, large, with_parsed, Standing, between, within, so_far, began, ended, blank, digit, numbers_from}

pub with_parsed_same : (r : Parsed (List ℕ)) → with_parsed (ended between) r ≡ r
with_parsed_same (parsed xs) = refl
with_parsed_same (stray p) = refl
with_parsed_same (large p) = refl

pub with_parsed_both : {X Y Z : Type 0} (f : X → Y) (g : Y → Z) (r : Parsed X) → with_parsed g (with_parsed f r) ≡ with_parsed (λ x. g (f x)) r
with_parsed_both f g (parsed x) = refl
with_parsed_both f g (stray p) = refl
with_parsed_both f g (large p) = refl

-- a digit by the library's test
pub digit_by : (b : ℕ) {t s : Bool} → t ≡ is_ascii_digit b → t ≡ s → digit b ≡ s
unfolding digit
digit_by b e h = go (ltb b 58) refl (leb b 57) refl ∙ sym e ∙ h
  where
    go : (t : Bool) → ltb b 58 ≡ t → (s : Bool) → leb b 57 ≡ s → leb 48 b && ltb b 58 ≡ leb 48 b && leb b 57
    go true t true s = rw (t, s)
    go false t false s = rw (t, s)
    go true t false s = absurd (omega (arith, ltb-true b 58 t, leb-false b 57 s))
    go false t true s = absurd (omega (arith, ltb-false b 58 t, leb-true b 57 s))

-- the byte at an offset and what is after it
pub rest_cons : (text : List ℕ) (at : ℕ) → at < length text → drop at text ≡ get_or text at 0 ∷ drop (at + 1) text
rest_cons text at l = let one : at + 1 ≡ suc at = omega arith in drop-cons text at 0 l ∙ ap (λ (k : ℕ). get_or text at 0 ∷ drop k text) (sym one)

module _ (most : ℕ) (place : Standing) (text : List ℕ) (at : ℕ) where
  -- past the last byte
  pub text_ends : length text ≤ at → numbers_from most place at (drop at text) ≡ parsed (ended place [])
  text_ends l = ap (numbers_from most place at) (drop_of_length-le text l)

  module _ (l : at < length text) where
    at_byte : numbers_from most place at (drop at text) ≡ numbers_from most place at (get_or text at 0 ∷ drop (at + 1) text)
    at_byte = ap (numbers_from most place at) (rest_cons text at l)

    -- a digit that makes the number too large
    pub digit_large : digit (get_or text at 0) ≡ true → most < 10 * so_far place + (get_or text at 0 - 48) → numbers_from most place at (drop at text) ≡ large (began place at)
    digit_large d m = at_byte ∙ rw (d, numbers_from, lt-leb (10 * so_far place + (get_or text at 0 - 48)) most m)

    -- a digit
    pub digit_on : digit (get_or text at 0) ≡ true → {n : ℕ} → n ≡ 10 * so_far place + (get_or text at 0 - 48) → n ≤ most
        → numbers_from most place at (drop at text) ≡ numbers_from most (within n (began place at)) (at + 1) (drop (at + 1) text)
    digit_on d {n} e m = at_byte ∙ rw (d, numbers_from, e, le-leb (10 * so_far place + (get_or text at 0 - 48)) most (omega arith))

    -- a blank
    pub blank_on : digit (get_or text at 0) ≡ false → blank (get_or text at 0) ≡ true
        → numbers_from most place at (drop at text) ≡ with_parsed (ended place) (numbers_from most between (at + 1) (drop (at + 1) text))
    blank_on d b = at_byte ∙ rw (d, numbers_from, b)

    -- neither
    pub byte_stray : digit (get_or text at 0) ≡ false → blank (get_or text at 0) ≡ false → numbers_from most place at (drop at text) ≡ stray at
    byte_stray d b = at_byte ∙ rw (d, numbers_from, b)

-- where a number begins, its digits so far are none
pub digit_begins : (most : ℕ) (text : List ℕ) (at : ℕ) → at < length text → digit (get_or text at 0) ≡ true
    → numbers_from most between at (drop at text) ≡ numbers_from most (within 0 at) at (drop at text)
digit_begins most text at l d = rw (rest_cons text at l, d, numbers_from)
