-- Laws of text written one part straight after the other.
use borrow.Rule.Slice.PartMut.{put_mid}
use Rattle.std.specs.Prelude.{ℕ, zero, suc, ◌+◌, ◌-◌, ◌≤◌, ◌<◌, min, ◌≡◌, refl, Bool, true, false, List, [], ◌∷◌, ◌++◌, leb, length, take, drop, set}
use Rattle.std.proofs.Common.{sym, ap, subst, ◌∙◌, append_assoc, arith, length-append, length-take, length-take-le, length-drop, length-set, drop_of_length-le, leb-true, leb-false}
use Rattle.std.proofs.lemmas.List.{set_at, take_all, take-append-drop}
use Rattle.std.proofs.Math.Seq.{take-nil}
use Rattle.text.specs.TokenLaws.{take_room}
use Rattle.facts.specs.Write.{over, Wrote}
use Rattle.text.specs.Append.{largest, next, put, past, Adds, Counts}

-- ---- one part and then another

put_length : (bs : List ℕ) (at : ℕ) (out : List ℕ) → length (put bs at out) ≡ length out
put_length [] at out = refl
put_length (b ∷ bs) at out = put_length bs (next at) (set out at b) ∙ length-set out at b

put_then : (xs ys : List ℕ) (at : ℕ) (out : List ℕ) → put (xs ++ ys) at out ≡ put ys (past xs at) (put xs at out)
put_then [] ys at out = refl
put_then (x ∷ xs) ys at out = put_then xs ys (next at) (set out at x)

past_then : (xs ys : List ℕ) (at : ℕ) → past (xs ++ ys) at ≡ past ys (past xs at)
past_then [] ys at = refl
past_then (x ∷ xs) ys at = past_then xs ys (next at)

module _ {xs before now : List ℕ} {at k : ℕ} (v : Adds xs before now at k) where
  -- the buffer's length stays
  pub adds_long : length now ≡ length before
  adds_long = ap length v.buffer ∙ put_length xs at before

  pub adds_then : {ys last : List ℕ} {end : ℕ} → Adds ys now last k end → Adds (xs ++ ys) before last at end
  adds_then {ys} {last} {end} w = record {
    buffer = w.buffer ∙ ap (put ys k) v.buffer ∙ ap (λ (j : ℕ). put ys j (put xs at before)) v.place ∙ sym (put_then xs ys at before);
    place = w.place ∙ ap (past ys) v.place ∙ sym (past_then xs ys at);
  }

-- the same text in other words
pub adds_as : {xs ys before now : List ℕ} {at end : ℕ} → xs ≡ ys → Adds xs before now at end → Adds ys before now at end
adds_as {before = before} {now = now} {at = at} {end = end} e v = subst (λ (bs : List ℕ). Adds bs before now at end) e v

pub adds_none : (out : List ℕ) (at : ℕ) → Adds [] out out at at
adds_none out at = record { buffer = refl; place = refl }

-- ---- a byte

pub next_is : (at : ℕ) → min (at + 1) largest ≡ next at
unfolding next
next_is at = refl

pub set_full : (out : List ℕ) (at b : ℕ) → length out ≤ at → out ≡ set out at b
set_full [] at b l = refl
set_full (x ∷ out) zero b l = absurd (omega arith)
set_full (x ∷ out) (suc at) b l = ap (λ (z : List ℕ). x ∷ z) (set_full out at b (omega arith))

-- ---- a part at once

-- where there is no room nothing changes
pub put_full : (bs : List ℕ) (at : ℕ) (out : List ℕ) → length out ≤ at → length out ≤ largest → put bs at out ≡ out
unfolding next
put_full [] at out l m = refl
put_full (b ∷ bs) at out l m = ap (put bs (next at)) (sym (set_full out at b l)) ∙ put_full bs (next at) out (omega arith) m

pub next_on : (at : ℕ) → at < largest → at + 1 ≡ next at
unfolding next
next_on at l = omega arith

-- as many as there is room for stand there
put_part : (bs done rest : List ℕ) → length done + min (length bs) (length rest) ≤ largest → put bs (length done) (done ++ rest) ≡ done ++ (take (length rest) bs ++ drop (length bs) rest)
put_part [] done rest l = rw (take-nil (length rest))
put_part (b ∷ bs) done [] l = let long : length (done ++ []) ≡ length done + 0 = length-append done [] in put_full (b ∷ bs) (length done) (done ++ []) (omega arith) (omega arith)
put_part (b ∷ bs) done (r ∷ rest) l =
    let long : length (done ++ (b ∷ [])) ≡ length done + 1 = length-append done (b ∷ []) in
    ap (λ (k : ℕ). put bs k (set (done ++ (r ∷ rest)) (length done) b)) (sym (next_on (length done) (omega arith)) ∙ sym long)
    ∙ ap (put bs (length (done ++ (b ∷ [])))) (set_at done r rest b (length done) refl ∙ sym (append_assoc done (b ∷ []) rest))
    ∙ put_part bs (done ++ (b ∷ [])) rest (omega (arith, long))
    ∙ append_assoc done (b ∷ []) (take (length rest) bs ++ drop (length bs) rest)

-- all that there is
drop_room : (xs : List ℕ) (i n : ℕ) → i ≡ min n (length xs) → drop i xs ≡ drop n xs
drop_room [] i n e = drop_of_length-le [] (omega arith) ∙ sym (drop_of_length-le [] (omega arith))
drop_room (x ∷ xs) i zero e = let none : i ≡ 0 = omega arith in ap (λ (k : ℕ). drop k (x ∷ xs)) none
drop_room (x ∷ xs) i (suc n) e = let more : i ≡ suc (min n (length xs)) = omega arith in ap (λ (k : ℕ). drop k (x ∷ xs)) more ∙ drop_room xs (min n (length xs)) n refl

-- from the end of the buffer on, wherever past it
put_from : (bs : List ℕ) (at start : ℕ) (out : List ℕ) → length out ≤ largest → start ≡ min at (length out) → put bs start out ≡ put bs at out
put_from bs at start out m e = go (leb (length out) at) refl
  where
    go : (t : Bool) → leb (length out) at ≡ t → put bs start out ≡ put bs at out
    go true t = put_full bs start out (omega (arith, leb-true (length out) at t)) m ∙ sym (put_full bs at out (leb-true (length out) at t) m)
    go false t = ap (λ (k : ℕ). put bs k out) (omega (arith, leb-false (length out) at t))

-- so many bytes copied to where there is room for them
pub put_copied : (bs out mid : List ℕ) (at start fits : ℕ) → length out ≤ largest → start ≡ min at (length out) → fits ≡ min (length bs) (length out - start) → mid ≡ take fits bs
    → put_mid start (start + fits - start) out mid ≡ put bs at out
put_copied bs out mid at start fits m s f e =
    let done : length (take start out) ≡ start = length-take-le start out (omega arith) in
    let rest : length (drop start out) ≡ length out - start = length-drop start out in
    let count : start + fits - start ≡ fits = omega arith in
    ap (λ (ys : List ℕ). take start out ++ ys) (ap (λ (ys : List ℕ). ys ++ drop (start + fits - start) (drop start out)) (e ∙ take_room bs fits (length (drop start out)) (omega arith))
    ∙ ap (λ (ys : List ℕ). take (length (drop start out)) bs ++ ys) (ap (λ (k : ℕ). drop k (drop start out)) count ∙ drop_room (drop start out) fits (length bs) (omega arith)))
    ∙ sym (put_part bs (take start out) (drop start out) (omega arith))
    ∙ ap (put bs (length (take start out))) (take-append-drop start out)
    ∙ ap (λ (k : ℕ). put bs k out) done
    ∙ put_from bs at start out m s

-- ---- from the front on

-- the index counts every byte, up to the largest
pub past_counts : (bs : List ℕ) (at : ℕ) → at ≤ largest → past bs at ≡ min (at + length bs) largest
unfolding next
past_counts [] at l = omega arith
past_counts (b ∷ bs) at l = past_counts bs (next at) (omega arith) ∙ omega arith

-- and is the text's length in a buffer of any length
pub adds_end : {text out now : List ℕ} {end : ℕ} → length text ≤ largest → Adds text out now 0 end → end ≡ length text
adds_end {text} l v = v.place ∙ past_counts text 0 (omega arith) ∙ omega arith

-- what has room stands there
put_front : (text out : List ℕ) → length text ≤ largest → length text ≤ length out → put text 0 out ≡ over text out
unfolding over
put_front text out few l = put_part text [] out (omega arith) ∙ ap (λ (bs : List ℕ). bs ++ drop (length text) out) (take_all (length out) text l)

-- where there is room the text stands at the front
pub adds_wrote : {text out now : List ℕ} {end : ℕ} → length text ≤ largest → length text ≤ length out → Adds text out now 0 end → Wrote text out now end
adds_wrote {text} {out} few l v = record { count = adds_end few v; buffer = v.buffer ∙ put_front text out few l }

-- ---- as much of a text as stands in its buffer

pub counts : (n : ℕ) (xs : List ℕ) → n ≤ length xs → Counts n xs
counts n xs l = (l, omega (arith, length-take n xs))
