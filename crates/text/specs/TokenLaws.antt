-- Laws of the next number of a text, and of loops over them.
use Rattle.std.specs.Prelude.{ℕ, Result, Ok, Err, Option, None, Some, IsErrAnd, zero, suc, ◌+◌, ◌≤◌, ◌<◌, min, ◌≡◌, refl, List, [], ◌∷◌, length, take, drop, set, get_or}
use Rattle.std.proofs.Common.{sym, ap, ◌∙◌, append_assoc, arith, add-one, length-set, length-drop, drop-cons, take-suc, length-take-le}
use Rattle.std.proofs.Math.Seq.{take-nil}
use Rattle.std.proofs.lemmas.List.{set_at, take_all}
use Rattle.std.proofs.lemmas.Result.{err_from_is_err_and}
use Rattle.facts.specs.Write.{over}
use Rattle.text.specs.declared.Flaw.{Flaw}
use Rattle.text.specs.declared.Flaw.TheVariants.{Stray, Large}
use Rattle.text.specs.declared.Only.TheVariants.{One, More}
use Rattle.text.specs.Text.{Parsed, parsed, stray, large, with_parsed, between, numbers_from, numbers_of, count_of, buffer_of, only_of}
use Rattle.text.specs.Answers.{wrong, found_answer, Bounds, Ahead}

-- what is ahead of an offset is ahead of those before it
bounds_from : (most : ℕ) (text : List ℕ) (from at : ℕ) (r : Result (Option (ℕ × ℕ)) Flaw) → from ≤ at → Bounds most text at r → Bounds most text from r
bounds_from most text from at (Ok (Some t)) l h = let (small, after, inside) = h in (small, omega arith, inside)
bounds_from most text from at (Ok None) l h = tt
bounds_from most text from at (Err why) l h = tt

pub ahead_from : {most : ℕ} {text : List ℕ} {from at : ℕ} {r : Result (Option (ℕ × ℕ)) Flaw} → from ≤ at → Ahead most text at r → Ahead most text from r
ahead_from {most} {text} {from} {at} {r} l h = record { bounds = bounds_from most text from at r l h.bounds }

-- ---- what is wrong

pub with_wrong : {X Y : Type 0} (f : X → Y) (why : Flaw) → with_parsed f (wrong why) ≡ wrong why
with_wrong f (Stray p) = refl
with_wrong f (Large p) = refl

-- what is wrong is handed on by a `?`
pub wrong_on : {X : Type 0} (r : Result X Flaw) (why : Flaw) → IsErrAnd r (λ e. e ≡ why) → found_answer r ≡ wrong why
wrong_on r why h = let p = err_from_is_err_and r h in ap found_answer p.1 ∙ ap wrong p.2

-- ---- how many numbers there are

-- so many are before the offset
pub record Counting (most : ℕ) (text : List ℕ) (at count : ℕ) : Type 0 where
  pub few : count ≤ at
  pub inside : at ≤ length text
  pub total : count_of most text ≡ with_parsed (λ (xs : List ℕ). count + length xs) (numbers_from most between at (drop at text))

plus_none : (r : Parsed (List ℕ)) → with_parsed length r ≡ with_parsed (λ (xs : List ℕ). 0 + length xs) r
plus_none (parsed xs) = ap parsed (omega arith)
plus_none (stray p) = refl
plus_none (large p) = refl

plus_one : (n count : ℕ) (r : Parsed (List ℕ)) → with_parsed (λ (xs : List ℕ). count + length xs) (with_parsed (λ (xs : List ℕ). n ∷ xs) r) ≡ with_parsed (λ (xs : List ℕ). count + 1 + length xs) r
plus_one n count (parsed xs) = ap parsed (omega arith)
plus_one n count (stray p) = refl
plus_one n count (large p) = refl

pub counting_start : (most : ℕ) (text : List ℕ) → Counting most text 0 0
unfolding count_of numbers_of
counting_start most text = record { few = omega arith; inside = omega arith; total = plus_none (numbers_from most between 0 text) }

module _ {most : ℕ} {text : List ℕ} {at count : ℕ} (g : Counting most text at count) where
  pub counting_next : {n end : ℕ} → (n ≤ most) × (at < end) × (end ≤ length text)
      → numbers_from most between at (drop at text) ≡ with_parsed (λ (xs : List ℕ). n ∷ xs) (numbers_from most between end (drop end text)) → Counting most text end (count + 1)
  counting_next {n} {end} (m, before, within) h = record {
    few = omega (arith, g.few);
    inside = within;
    total = g.total ∙ ap (with_parsed (λ (xs : List ℕ). count + length xs)) h ∙ plus_one n count (numbers_from most between end (drop end text));
  }

  pub counting_wrong : (why : Flaw) → numbers_from most between at (drop at text) ≡ wrong why → count_of most text ≡ wrong why
  counting_wrong why h = g.total ∙ ap (with_parsed (λ (xs : List ℕ). count + length xs)) h ∙ with_wrong (λ (xs : List ℕ). count + length xs) why

  pub counting_end : numbers_from most between at (drop at text) ≡ parsed [] → count_of most text ≡ parsed count
  counting_end h = g.total ∙ ap (with_parsed (λ (xs : List ℕ). count + length xs)) h ∙ ap parsed (omega arith)

-- ---- the numbers in a buffer

-- what comes first among numbers is the first of them
first_is : (n : ℕ) (xs : List ℕ) (r : Parsed (List ℕ)) → with_parsed (λ (ys : List ℕ). n ∷ ys) r ≡ parsed xs → (ys : List ℕ) × (r ≡ parsed ys) × (xs ≡ n ∷ ys)
first_is n xs (parsed ys) h = (ys, refl, cc)
first_is n xs (stray p) h = let z : ◌≡◌ {A = ℕ} 0 1 = cc in absurd (omega arith)
first_is n xs (large p) h = let z : ◌≡◌ {A = ℕ} 0 1 = cc in absurd (omega arith)

-- one number more at the front
over_one : (xs before : List ℕ) (i n : ℕ) → i < length xs → i < length before → n ≡ get_or xs i 0 → set (over (take i xs) before) i n ≡ over (take (i + 1) xs) before
unfolding over
over_one xs before i n l m e =
    let long : length (take i xs) ≡ i = length-take-le i xs (omega arith) in
    let longer : length (take (suc i) xs) ≡ suc i = length-take-le (suc i) xs (omega arith) in
    rw (add-one i, longer, long, drop-cons before i 0 m, set_at (take i xs) (get_or before i 0) (drop (suc i) before) n i long, take-suc xs i 0 l, e, append_assoc (take i xs) (get_or xs i 0 ∷ []) (drop (suc i) before))

-- all that there is room for
pub take_room : (xs : List ℕ) (i room : ℕ) → i ≡ min (length xs) room → take i xs ≡ take room xs
take_room [] i room e = take-nil i ∙ sym (take-nil room)
take_room (x ∷ xs) i zero e = let none : i ≡ 0 = omega arith in ap (λ (k : ℕ). take k (x ∷ xs)) none
take_room (x ∷ xs) i (suc room) e =
    let more : i ≡ suc (min (length xs) room) = omega arith in
    ap (λ (k : ℕ). take k (x ∷ xs)) more ∙ ap (λ (ys : List ℕ). x ∷ ys) (take_room xs (min (length xs) room) room refl)

-- the numbers of a text; none where something is wrong
abbrev entries : Parsed (List ℕ) → List ℕ
entries (parsed xs) = xs
entries (stray p) = []
entries (large p) = []

are_parsed : (r : Parsed (List ℕ)) {x : ℕ} {xs : List ℕ} → entries r ≡ x ∷ xs → r ≡ parsed (x ∷ xs)
are_parsed (parsed ys) h = ap parsed h
are_parsed (stray p) h = let l = ap length h in absurd (omega arith)
are_parsed (large p) h = let l = ap length h in absurd (omega arith)

buffer_entries : (r : Parsed (List ℕ)) (out : List ℕ) → over (take (length out) (entries r)) out ≡ buffer_of r out
unfolding over buffer_of
buffer_entries (parsed xs) out = refl
buffer_entries (stray p) out = rw (take-nil (length out))
buffer_entries (large p) out = rw (take-nil (length out))

-- where something is wrong a buffer stays as it was
pub buffer_wrong : (why : Flaw) (r : Parsed (List ℕ)) {out : List ℕ} → r ≡ wrong why → out ≡ buffer_of r out
unfolding buffer_of
buffer_wrong (Stray p) (stray q) e = refl
buffer_wrong (Stray p) (parsed xs) e = let z : ◌≡◌ {A = ℕ} 0 1 = cc in absurd (omega arith)
buffer_wrong (Stray p) (large q) e = let z : ◌≡◌ {A = ℕ} 0 1 = cc in absurd (omega arith)
buffer_wrong (Large p) (large q) e = refl
buffer_wrong (Large p) (parsed xs) e = let z : ◌≡◌ {A = ℕ} 0 1 = cc in absurd (omega arith)
buffer_wrong (Large p) (stray q) e = let z : ◌≡◌ {A = ℕ} 0 1 = cc in absurd (omega arith)

-- i numbers, those before the offset, stand at the front of a buffer
pub record Filling (most : ℕ) (text before now : List ℕ) (at i : ℕ) : Type 0 where
  pub long : length now ≡ length before
  pub few : i ≤ length (entries (numbers_of most text))
  pub front : now ≡ over (take i (entries (numbers_of most text))) before
  pub rest : numbers_from most between at (drop at text) ≡ parsed (drop i (entries (numbers_of most text)))

parsed_entries : (r : Parsed (List ℕ)) {n : ℕ} → with_parsed length r ≡ parsed n → r ≡ parsed (entries r)
parsed_entries (parsed xs) h = refl
parsed_entries (stray p) h = let z : ◌≡◌ {A = ℕ} 0 1 = cc in absurd (omega arith)
parsed_entries (large p) h = let z : ◌≡◌ {A = ℕ} 0 1 = cc in absurd (omega arith)

counted_entries : (r : Parsed (List ℕ)) {n : ℕ} → with_parsed length r ≡ parsed n → length (entries r) ≡ n
counted_entries (parsed xs) h = cc
counted_entries (stray p) h = let z : ◌≡◌ {A = ℕ} 0 1 = cc in absurd (omega arith)
counted_entries (large p) h = let z : ◌≡◌ {A = ℕ} 0 1 = cc in absurd (omega arith)

pub filling_start : (most : ℕ) (text out : List ℕ) {n : ℕ} → parsed n ≡ count_of most text → Filling most text out out 0 0
unfolding numbers_of count_of over
filling_start most text out is = record {
  long = refl;
  few = omega arith;
  front = refl;
  rest = parsed_entries (numbers_of most text) (sym is);
}

module _ {most : ℕ} {text before now : List ℕ} {at i : ℕ} (g : Filling most text before now at i) where
  -- one number more, and then the others
  pub filling_next : (n end : ℕ) → i < length now → numbers_from most between at (drop at text) ≡ with_parsed (λ (xs : List ℕ). n ∷ xs) (numbers_from most between end (drop end text)) → Filling most text before (set now i n) end (i + 1)
  filling_next n end l h =
      let (ys, others, first) = first_is n (drop i (entries (numbers_of most text))) (numbers_from most between end (drop end text)) (sym h ∙ g.rest) in
      let m : i < length (entries (numbers_of most text)) = omega (arith, length-drop i (entries (numbers_of most text)), ap length first) in
      let here : get_or (entries (numbers_of most text)) i 0 ∷ drop (suc i) (entries (numbers_of most text)) ≡ n ∷ ys = sym (drop-cons (entries (numbers_of most text)) i 0 m) ∙ first in
      record {
        long = length-set now i n ∙ g.long;
        few = omega arith;
        front = ap (λ (z : List ℕ). set z i n) g.front ∙ over_one (entries (numbers_of most text)) before i n m (omega (arith, g.long)) cc;
        rest = others ∙ rw (add-one i) cc;
      }

  -- all that there are, or all that there is room for
  pub filling_none : i < length now → numbers_from most between at (drop at text) ≡ parsed [] → now ≡ buffer_of (numbers_of most text) before
  filling_none l h =
      let none : drop i (entries (numbers_of most text)) ≡ [] = cc in
      let all : length (entries (numbers_of most text)) ≡ i = omega (arith, length-drop i (entries (numbers_of most text)), ap length none, g.few) in
      g.front
      ∙ ap (λ (ys : List ℕ). over ys before) (take_all i (entries (numbers_of most text)) (omega arith) ∙ sym (take_all (length before) (entries (numbers_of most text)) (omega (arith, g.long))))
      ∙ buffer_entries (numbers_of most text) before

  pub filling_end : {n : ℕ} → parsed n ≡ count_of most text → i ≡ min n (length now) → now ≡ buffer_of (numbers_of most text) before
  unfolding count_of
  filling_end is e =
      let all = counted_entries (numbers_of most text) (sym is) in
      g.front ∙ ap (λ (ys : List ℕ). over ys before) (take_room (entries (numbers_of most text)) i (length before) (omega (arith, e, all, g.long))) ∙ buffer_entries (numbers_of most text) before

  pub filling_full : i ≡ length now → now ≡ buffer_of (numbers_of most text) before
  filling_full l = g.front ∙ ap (λ (k : ℕ). over (take k (entries (numbers_of most text))) before) (l ∙ g.long) ∙ buffer_entries (numbers_of most text) before

-- ---- what is answered

-- what a text has that has so many numbers, or something wrong
counted : {n : ℕ} (r : Parsed (List ℕ)) → with_parsed length r ≡ parsed n → (xs : List ℕ) × (r ≡ parsed xs) × (length xs ≡ n)
counted (parsed xs) h = (xs, refl, cc)
counted (stray p) h = let z : ◌≡◌ {A = ℕ} 0 1 = cc in absurd (omega arith)
counted (large p) h = let z : ◌≡◌ {A = ℕ} 0 1 = cc in absurd (omega arith)

is_stray : {p : ℕ} (r : Parsed (List ℕ)) → with_parsed length r ≡ stray p → r ≡ stray p
is_stray (parsed xs) h = let z : ◌≡◌ {A = ℕ} 0 1 = cc in absurd (omega arith)
is_stray (stray q) h = cc
is_stray (large q) h = let z : ◌≡◌ {A = ℕ} 0 1 = cc in absurd (omega arith)

is_large : {p : ℕ} (r : Parsed (List ℕ)) → with_parsed length r ≡ large p → r ≡ large p
is_large (parsed xs) h = let z : ◌≡◌ {A = ℕ} 0 1 = cc in absurd (omega arith)
is_large (stray q) h = let z : ◌≡◌ {A = ℕ} 0 1 = cc in absurd (omega arith)
is_large (large q) h = cc

module _ (most : ℕ) (text : List ℕ) where
  pub count_of_lem : {n : ℕ} → count_of most text ≡ parsed n → (xs : List ℕ) × (numbers_of most text ≡ parsed xs) × (length xs ≡ n)
  unfolding count_of
  count_of_lem h = counted (numbers_of most text) h

  pub wrong_of : (why : Flaw) → count_of most text ≡ wrong why → numbers_of most text ≡ wrong why
  unfolding count_of
  wrong_of (Stray p) h = is_stray (numbers_of most text) h
  wrong_of (Large p) h = is_large (numbers_of most text) h

  -- from the beginning
  pub from_start : (r : Parsed (List ℕ)) → numbers_from most between 0 (drop 0 text) ≡ r → numbers_of most text ≡ r
  unfolding numbers_of
  from_start r h = h

  -- the only number, or the first of more
  pub only_one : (n end : ℕ) {k : ℕ} → numbers_of most text ≡ with_parsed (λ (xs : List ℕ). n ∷ xs) (numbers_from most between end (drop end text)) → count_of most text ≡ parsed k → k ≡ 1 → with_parsed only_of (numbers_of most text) ≡ parsed (One n)
  only_one n end h c e =
      let (xs, is, long) = count_of_lem c in
      let (ys, rest, first) = first_is n xs (numbers_from most between end (drop end text)) (sym h ∙ is) in
      ap (with_parsed only_of) is ∙ only_of_lem n xs ys first (omega arith)
    where
      only_of_lem : (n : ℕ) (xs ys : List ℕ) → xs ≡ n ∷ ys → length xs ≡ 1 → with_parsed only_of (parsed xs) ≡ parsed (One n)
      only_of_lem n xs [] e l = ap (λ (z : List ℕ). parsed (only_of z)) e
      only_of_lem n xs (y ∷ ys) e l = let long = ap length e in absurd (omega arith)

  pub only_more : (n end : ℕ) {k : ℕ} → numbers_of most text ≡ with_parsed (λ (xs : List ℕ). n ∷ xs) (numbers_from most between end (drop end text)) → count_of most text ≡ parsed k → (k ≡ 1 → ⊥) → with_parsed only_of (numbers_of most text) ≡ parsed More
  only_more n end h c e =
      let (xs, is, long) = count_of_lem c in
      let (ys, rest, first) = first_is n xs (numbers_from most between end (drop end text)) (sym h ∙ is) in
      ap (with_parsed only_of) is ∙ more_of n xs ys first (λ l. e (sym long ∙ l))
    where
      more_of : (n : ℕ) (xs ys : List ℕ) → xs ≡ n ∷ ys → (length xs ≡ 1 → ⊥) → with_parsed only_of (parsed xs) ≡ parsed More
      more_of n xs [] e l = absurd (l (ap length e))
      more_of n xs (y ∷ ys) e l = ap (λ (z : List ℕ). parsed (only_of z)) e
