-- Laws of numbers that are put into a line of spaces, digit by digit from the last one on.
use Prim.Native.Nat.{ℕ, zero, suc, ◌+◌, ◌*◌, ◌-◌, ◌/◌, ◌%◌, ◌≤◌, ◌<◌}
use Rattle.std.specs.Prelude.{◌≡◌}
use Rattle.std.proofs.Math.Path.{sym, ap, ap₂}
use Rattle.std.proofs.Common.{◌∙◌, lt_of_not-le, zero-add, take-append-drop, length-take-le, take-suc}
use mathlib.Core.List.{List, [], ◌∷◌, ◌++◌, append_assoc, append-nil}
use Rattle.std.proofs.Math.Decide.{dec_le}
use native.Mathlib.Omega.{arith}
use Rattle.std.proofs.Math.ListN.{length, take, drop, set, get_or, length-append}
use Rattle.std.proofs.lemmas.List.{set_at}
use Rattle.text.specs.Text.{decimal}
use Rattle.text.specs.PrintLaws.{decimal_one, decimal_more, length_one, length_more}
use Rattle.line_writer.specs.Lines.{spaces}
use Rattle.line_writer.specs.Columns.{two_digits_from, two_digits, ending_at}

-- ---- digit by digit

-- the last digits of n stand in the line, `done`, from the column `at` on; those of `rest` are left
pub record Putting (n end : ℕ) (before now : List ℕ) (at rest : ℕ) : Type 0 where
  pub done : List ℕ
  pub digits : decimal n ≡ decimal rest ++ done
  pub place : at + length done ≡ end
  pub line : now ≡ take at before ++ (done ++ drop end before)

pub putting_start : (n end : ℕ) (line : List ℕ) → Putting n end line line end n
putting_start n end line = record { done = []; digits = sym (append-nil (decimal n)); place = omega arith; line = sym (take-append-drop end line) }

-- one digit more before those that are there
put_digit : (before done : List ℕ) (at first end d : ℕ) → at ≡ suc first → at ≤ length before → set (take at before ++ (done ++ drop end before)) first d ≡ take first before ++ ((d ∷ done) ++ drop end before)
put_digit before done at first end d e l =
    let split : take at before ≡ take first before ++ (get_or before first 0 ∷ []) = ap (λ (k : ℕ). take k before) e ∙ take-suc before first 0 (omega arith) in
    rw (split, append_assoc (take first before) (get_or before first 0 ∷ []) (done ++ drop end before)) (set_at (take first before) (get_or before first 0) (done ++ drop end before) d first (length-take-le first before (omega arith)))

some_digit : (k : ℕ) → 1 ≤ length (decimal k)
some_digit k = elim (dec_le 10 k) [ yes h ↦ omega (arith, length_more k h) | no h ↦ omega (arith, length_one k (omega (arith, lt_of_not-le h))) ]

module _ {n end : ℕ} {before now : List ℕ} {at rest : ℕ} (g : Putting n end before now at rest) (fits : length (decimal n) ≤ end) (room : end ≤ length before) where
  -- there is room for what is left
  left_fits : length (decimal rest) ≤ at
  left_fits = omega (arith, ap length g.digits ∙ length-append (decimal rest) g.done, g.place)

  pub putting_long : length now ≡ length before
  putting_long = ap length g.line ∙ simp length-append (omega (arith, length-take-le at before (omega (arith, g.place)), g.place, ap length (sym (take-append-drop end before)) ∙ length-append (take end before) (drop end before), length-take-le end before room))

  -- there is a column for the next digit, and for two where two are left
  pub putting_some : 1 ≤ at
  putting_some = omega (arith, left_fits, some_digit rest)

  pub putting_pair : 10 ≤ rest → 2 ≤ at
  putting_pair l = omega (arith, left_fits, length_more rest l, some_digit (rest / 10))

  putting_more : {first : ℕ} → at ≡ suc first → 10 ≤ rest → Putting n end before (set now first (48 + rest % 10)) first (rest / 10)
  putting_more {first} e l = record {
    done = (48 + rest % 10) ∷ g.done;
    digits = g.digits ∙ ap (λ (ds : List ℕ). ds ++ g.done) (decimal_more rest l) ∙ append_assoc (decimal (rest / 10)) ((48 + rest % 10) ∷ []) g.done;
    place = omega (arith, g.place);
    line = ap (λ (z : List ℕ). set z first (48 + rest % 10)) g.line ∙ put_digit before g.done at first end (48 + rest % 10) e (omega (arith, g.place));
  }

  pub putting_end : {first : ℕ} → at ≡ suc first → rest < 10 → set now first (48 + rest) ≡ ending_at end (decimal n) before
  unfolding ending_at
  putting_end {first} e l =
      let all : decimal n ≡ (48 + rest) ∷ g.done = g.digits ∙ ap (λ (ds : List ℕ). ds ++ g.done) (decimal_one rest l) in
      let here : end - length (decimal n) ≡ first = omega (arith, g.place, ap length all) in
      ap (λ (z : List ℕ). set z first (48 + rest)) g.line
      ∙ put_digit before g.done at first end (48 + rest) e (omega (arith, g.place))
      ∙ ap₂ (λ (k : ℕ) (ds : List ℕ). take k before ++ (ds ++ drop end before)) (sym here) (sym all)

-- two digits at a time
module _ {n end : ℕ} {before now : List ℕ} {at rest : ℕ} (g : Putting n end before now at rest) (fits : length (decimal n) ≤ end) (room : end ≤ length before)
    {last ones : ℕ} (e : at ≡ suc last) (l : 10 ≤ rest) (o : ones ≡ 48 + rest % 10) where
  one_more : Putting n end before (set now last ones) last (rest / 10)
  one_more = rw o (putting_more g fits room e l)

  pub putting_two : {first tens : ℕ} → last ≡ suc first → 100 ≤ rest → tens ≡ 48 + rest / 10 % 10 → Putting n end before (set (set now last ones) first tens) first (rest / 100)
  putting_two d h t =
      let same : rest / 10 / 10 ≡ rest / 100 = omega arith in
      rw (← same, t) (putting_more one_more fits room d (omega arith))

  pub two_end : {first tens : ℕ} → last ≡ suc first → rest < 100 → tens ≡ 48 + rest / 10 → set (set now last ones) first tens ≡ ending_at end (decimal n) before
  two_end d h t = rw t (putting_end one_more fits room d (omega arith))

-- ---- the table

-- where a number stands in it
from_tens : (k count j q : ℕ) → j < count → q ≡ 2 * j → get_or (two_digits_from k count) q 0 ≡ 48 + (k + j) / 10
from_tens k zero j q l e = absurd (omega arith)
from_tens k (suc count) j zero l e = let z : k ≡ k + j = omega arith in ap (λ (i : ℕ). 48 + i / 10) z
from_tens k (suc count) j (suc zero) l e = absurd (omega arith)
from_tens k (suc count) zero (suc (suc q)) l e = absurd (omega arith)
from_tens k (suc count) (suc j) (suc (suc q)) l e = let z : suc k + j ≡ k + suc j = omega arith in from_tens (suc k) count j q (omega arith) (omega arith) ∙ ap (λ (i : ℕ). 48 + i / 10) z

from_ones : (k count j q : ℕ) → j < count → q ≡ 2 * j + 1 → get_or (two_digits_from k count) q 0 ≡ 48 + (k + j) % 10
from_ones k zero j q l e = absurd (omega arith)
from_ones k (suc count) j zero l e = absurd (omega arith)
from_ones k (suc count) j (suc zero) l e = let z : k ≡ k + j = omega arith in ap (λ (i : ℕ). 48 + i % 10) z
from_ones k (suc count) zero (suc (suc q)) l e = absurd (omega arith)
from_ones k (suc count) (suc j) (suc (suc q)) l e = let z : suc k + j ≡ k + suc j = omega arith in from_ones (suc k) count j q (omega arith) (omega arith) ∙ ap (λ (i : ℕ). 48 + i % 10) z

module _ {pairs : List ℕ} (is : pairs ≡ two_digits) where
  pub two_tens : (j : ℕ) {q : ℕ} → j < 100 → q ≡ 2 * j → get_or pairs q 0 ≡ 48 + j / 10
  unfolding two_digits
  two_tens j {q} l e = ap (λ (xs : List ℕ). get_or xs q 0) is ∙ from_tens 0 100 j q l e ∙ ap (λ (i : ℕ). 48 + i / 10) (zero-add j)

  pub two_ones : (j : ℕ) {q : ℕ} → j < 100 → q ≡ 2 * j + 1 → get_or pairs q 0 ≡ 48 + j % 10
  unfolding two_digits
  two_ones j {q} l e = ap (λ (xs : List ℕ). get_or xs q 0) is ∙ from_ones 0 100 j q l e ∙ ap (λ (i : ℕ). 48 + i % 10) (zero-add j)

  pub two_long : length pairs ≡ 200
  unfolding two_digits
  two_long = ap length is

-- ---- field by field

-- `done` stands in the line, then so many spaces, and then `post`
pub record Spaced (done line post : List ℕ) (left : ℕ) : Type 0 where
  pub is : line ≡ done ++ (spaces left ++ post)
