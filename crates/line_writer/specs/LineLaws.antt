-- Laws of lines: numbers that are not too large fill their fields, and then a line has 24 characters and a newline.
use Rattle.std.specs.Prelude.{ℕ, ◌*◌, ◌≤◌, ◌≡◌, refl, List, [], ◌∷◌, ◌++◌, length}
use Rattle.std.proofs.Common.{ap, ◌∙◌, append_assoc, arith, length-append}
use Rattle.std.proofs.lemmas.List.{length-replicate}
use Rattle.facts.specs.Lists.{All}
use Rattle.text.specs.Text.{decimal}
use Rattle.text.specs.Append.{bytes}
use Rattle.text.specs.PrintLaws.{digits_most}
use Rattle.line_writer.specs.Lines.{field, Entry, line_text, last_text, lines_text}
use Rattle.line_writer.specs.Columns.{line_bytes, most_sum, Narrow}

-- ---- fields

-- A number that is not too long fills its field.
pub field_long : (width n : ℕ) → length (decimal n) ≤ width → length (field width n) ≡ width
unfolding field
field_long width n l = simp (length-append, length-replicate) (omega arith)

-- the digits of an action's numbers are no more than their columns
pub record Digits (e : Entry) : Type 0 where
  pub index : length (decimal e.index) ≤ 3
  pub action : length (decimal e.action) ≤ 2
  pub cost : length (decimal e.cost) ≤ 7
  pub sum : length (decimal e.sum) ≤ 9

pub sum_digits : (sum : ℕ) → sum ≤ most_sum → length (decimal sum) ≤ 9
sum_digits sum l = digits_most 8 sum (omega arith)

pub digits : (e : Entry) → Narrow e → Digits e
digits e w = record {
  index = digits_most 2 e.index (omega (arith, w.index));
  action = digits_most 1 e.action (omega (arith, w.action));
  cost = digits_most 6 e.cost (omega (arith, w.cost));
  sum = sum_digits e.sum w.sum;
}

-- ---- lines

-- a text of 24 characters and a newline
pub record Whole (xs : List ℕ) : Type 0 where
  pub characters : List ℕ
  pub count : length characters ≡ 24
  pub is : xs ≡ characters ++ (10 ∷ [])

-- The line of an action is one.
pub line_whole : (e : Entry) → Narrow e → Whole (line_text e)
unfolding line_text
line_whole e w =
    let d = digits e w in
    let index = field 3 e.index in
    let action = field 2 e.action in
    let cost = field 7 e.cost in
    let sum = field 9 e.sum in
    record {
      characters = index ++ (bytes " " ++ (action ++ (bytes " " ++ (cost ++ (bytes " " ++ sum)))));
      count = omega (
        arith,
        length-append index (bytes " " ++ (action ++ (bytes " " ++ (cost ++ (bytes " " ++ sum))))),
        length-append action (bytes " " ++ (cost ++ (bytes " " ++ sum))),
        length-append cost (bytes " " ++ sum),
        field_long 3 e.index d.index,
        field_long 2 e.action d.action,
        field_long 7 e.cost d.cost,
        field_long 9 e.sum d.sum,
      );
      is = simp append_assoc;
    }

-- And so is the last line.
pub last_whole : (sum : ℕ) → sum ≤ most_sum → Whole (last_text sum)
unfolding last_text
last_whole sum l = record { characters = bytes "sum" ++ field 21 sum; count = omega (arith, field_long 21 sum (omega (arith, sum_digits sum l))); is = refl }

whole_long : {xs : List ℕ} → Whole xs → length xs ≡ line_bytes
whole_long w = omega (arith, w.count, ap length w.is ∙ length-append w.characters (10 ∷ []))

pub line_long : (e : Entry) → Narrow e → length (line_text e) ≡ line_bytes
line_long e w = whole_long (line_whole e w)

pub last_long : (sum : ℕ) → sum ≤ most_sum → length (last_text sum) ≡ line_bytes
last_long sum l = whole_long (last_whole sum l)

pub lines_whole : (es : List Entry) → All Narrow es → All (λ e. Whole (line_text e)) es
lines_whole [] w = tt
lines_whole (e ∷ es) (w, ws) = (line_whole e w, lines_whole es ws)

pub lines_long : (es : List Entry) → All Narrow es → length (lines_text es) ≡ line_bytes * length es
lines_long [] w = refl
lines_long (e ∷ es) (w, ws) = omega (arith, length-append (line_text e) (lines_text es), line_long e w, lines_long es ws)
