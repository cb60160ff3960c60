-- Laws of numbers that are put into a line of spaces, digit by digit from the last one on.
use Prim.Native.Nat.{ℕ, suc, ◌+◌, ◌-◌, ◌≤◌}
use Rattle.std.specs.Prelude.{◌≡◌}
use Rattle.std.proofs.Math.Path.{refl, sym, ap}
use Rattle.std.proofs.Common.{◌∙◌}
use mathlib.Core.List.{List, [], ◌∷◌, ◌++◌, append_assoc}
use native.Mathlib.Omega.{arith}
use Rattle.std.proofs.Math.ListN.{length, take, drop, length-append, length-replicate}
use Rattle.std.proofs.lemmas.List.{replicate-append-replicate}
use Rattle.std.proofs.Math.Seq.{take_at, drop_at}
use Rattle.facts.specs.Write.{over, Wrote}
use Rattle.text.specs.Text.{decimal}
use Rattle.text.specs.Append.{bytes}
use Rattle.line_writer.specs.Lines.{spaces, field, Entry, line_text, last_text}
use Rattle.line_writer.specs.Columns.{line_bytes, most_sum, Narrow, ending_at}
use Rattle.line_writer.specs.LineLaws.{field_long, digits, sum_digits, line_long, last_long}
use Rattle.line_writer.specs.ColumnLaws.{Spaced}

-- ---- field by field

module _ {done line post : List ℕ} {columns : ℕ} (h : Spaced done line post columns) (width n : ℕ) (l : length (decimal n) ≤ width) where
  -- A number whose digits end at the last column of the last field stands in it.
  field_last : (end : ℕ) → columns ≡ width → length done + width ≡ end → ending_at end (decimal n) line ≡ done ++ (field width n ++ post)
  unfolding ending_at field
  field_last end same e =
      let k = width - length (decimal n) in
      let split : spaces columns ≡ spaces k ++ spaces (length (decimal n)) =
      let sum : columns ≡ k + length (decimal n) = omega arith in ap (λ (j : ℕ). spaces j) sum ∙ sym (replicate-append-replicate k (length (decimal n)) 32) in
      let front : line ≡ (done ++ spaces k) ++ (spaces (length (decimal n)) ++ post) = h.is ∙ ap (λ (z : List ℕ). done ++ (z ++ post)) split ∙ simp append_assoc in
      let back : line ≡ (done ++ spaces columns) ++ post = h.is ∙ sym (append_assoc done (spaces columns) post) in
      let before = ap (take (end - length (decimal n))) front ∙ take_at (done ++ spaces k) (spaces (length (decimal n)) ++ post) (end - length (decimal n)) (omega (arith, length-append done (spaces k), length-replicate {A = ℕ} k 32)) in
      let behind = ap (drop end) back ∙ drop_at (done ++ spaces columns) post end (omega (arith, length-append done (spaces columns), length-replicate {A = ℕ} columns 32)) in
      rw (before, behind) (simp append_assoc)

  done_long : length (done ++ (field width n ++ bytes " ")) ≡ length done + width + 1
  done_long = omega (arith, length-append done (field width n ++ bytes " "), length-append (field width n) (bytes " "), field_long width n l)

-- The next field, and the space after it.
field_next : {done line post : List ℕ} {columns : ℕ} → Spaced done line post columns → (width n : ℕ) → length (decimal n) ≤ width → (end left : ℕ) → columns ≡ width + suc left → length done + width ≡ end
    → Spaced (done ++ (field width n ++ bytes " ")) (ending_at end (decimal n) line) post left
field_next {done} {line} {post} h width n l end left c e =
    let split : Spaced done line (spaces (suc left) ++ post) width = record {
      is = h.is ∙ ap (λ (k : ℕ). done ++ (spaces k ++ post)) c ∙ ap (λ (z : List ℕ). done ++ (z ++ post)) (sym (replicate-append-replicate width (suc left) 32)) ∙ simp append_assoc;
    } in
    record { is = field_last split width n l end refl e ∙ simp append_assoc }

-- ---- the lines, at the front of a buffer

module _ (out : List ℕ) {now : List ℕ} {n : ℕ} (count : n ≡ line_bytes) where
  at_front : {text : List ℕ} → length text ≡ line_bytes → now ≡ text ++ drop line_bytes out → Wrote text out now n
  unfolding over
  at_front {text} l e = record { count = count ∙ sym l; buffer = e ∙ ap (λ (k : ℕ). text ++ drop k out) (sym l) }

  pub line_wrote : (e : Entry) → Narrow e
      → now ≡ ending_at 24 (decimal e.sum) (ending_at 14 (decimal e.cost) (ending_at 6 (decimal e.action) (ending_at 3 (decimal e.index) (spaces 24 ++ (10 ∷ drop line_bytes out)))))
      → Wrote (line_text e) out now n
  unfolding line_text
  line_wrote e w h =
      let d = digits e w in
      let rest : List ℕ = 10 ∷ drop line_bytes out in
      let none : Spaced [] (spaces 24 ++ rest) rest 24 = record { is = refl } in
      let index = field_next none 3 e.index d.index 3 20 refl refl in
      let action = field_next index 2 e.action d.action 6 17 refl (omega (arith, done_long none 3 e.index d.index)) in
      let cost = field_next action 7 e.cost d.cost 14 9 refl (omega (arith, done_long none 3 e.index d.index, done_long index 2 e.action d.action)) in
      at_front (line_long e w) (h ∙ field_last cost 9 e.sum d.sum 24 refl (omega (arith, done_long none 3 e.index d.index, done_long index 2 e.action d.action, done_long action 7 e.cost d.cost)) ∙ simp append_assoc)

  pub last_wrote : (sum : ℕ) → sum ≤ most_sum → now ≡ ending_at 24 (decimal sum) (bytes "sum" ++ (spaces 21 ++ (10 ∷ drop line_bytes out))) → Wrote (last_text sum) out now n
  unfolding last_text
  last_wrote sum l h =
      let rest : List ℕ = 10 ∷ drop line_bytes out in
      let word : Spaced (bytes "sum") (bytes "sum" ++ (spaces 21 ++ rest)) rest 21 = record { is = refl } in
      at_front (last_long sum l) (h ∙ field_last word 21 sum (omega (arith, sum_digits sum l)) 24 refl refl ∙ simp append_assoc)
