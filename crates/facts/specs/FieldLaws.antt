-- Laws of single fields: the ways in which a field can go, and what an accepted one is.
use Rattle.std.specs.Prelude.{◌≡◌, refl, ℕ, suc, ◌+◌, ◌^◌, ◌≤◌, ◌<◌, Bool, true, false, ◌&&◌, length, get_or, take, drop}
use Rattle.std.proofs.Math.Path.{sym}
use Rattle.std.proofs.Common.{ap, ◌∙◌, lt_of_not-le, arith, drop-cons}
use Rattle.std.proofs.Math.Decide.{dec_le}
use Rattle.std.proofs.Math.Bool.{and-eq-true_iff}
use mathlib.Core.List.{List, [], ◌∷◌}
use Rattle.std.proofs.Math.Dec.{leb, ltb}
use borrow.Author.Tests.{leb-true, ltb-true, le-leb, lt-leb, le-ltb, lt-ltb}
use Rattle.facts.specs.Read.{accepted, refused, check}
use Rattle.facts.specs.ReadLaws.{through, checked, value_of_lem, next_of_lem, carried}
use Rattle.facts.specs.Lists.{Zip, nil, cons}
use Rattle.facts.specs.Bytes.{number_at, Bytes}
use Rattle.facts.specs.BytesLaws.{two_below, number_one, bytes_each}
use Rattle.facts.specs.Fields.{each, read_number, field, read_count, read_value, read_map, read_weight, read_values, read_end}

-- a value x of a domain of d values
abbrev pub Under : ℕ → ℕ → Type 0
Under d x = x < d

-- ---- one field of the file f

module _ (f : List ℕ) where
  -- the ways in which reading k bytes can go
  pub number_ends : (k at : ℕ) → length f < at + k → read_number f k at ≡ refused 1 at
  unfolding read_number
  number_ends k at h = rw (lt-leb (at + k) (length f) h)

  pub number_reads : (k at : ℕ) → at + k ≤ length f → read_number f k at ≡ accepted (number_at k f at)
  unfolding read_number
  number_reads k at h = rw (le-leb (at + k) (length f) h)

  pub record Number (k at n : ℕ) : Type 0 where
    pub fits : at + k ≤ length f
    pub value : number_at k f at ≡ n

  pub number_read : (k at : ℕ) {n : ℕ} → read_number f k at ≡ accepted n → Number k at n
  unfolding read_number
  number_read k at h =
      let o = through (check (leb (at + k) (length f)) 1 at) h in
      record { fits = leb-true (at + k) (length f) (checked (leb (at + k) (length f)) 1 at o.first); value = cc o.then }

  pub number_short : (k at : ℕ) {n p : ℕ} → read_number f k at ≡ refused n p → length f < at + k
  number_short k at h = elim (dec_le (at + k) (length f)) [ yes l ↦ absurd (let e = number_reads k at l in let z : ◌≡◌ {A = ℕ} 0 1 = cc in omega arith) | no l ↦ lt_of_not-le l ]

  -- the ways in which a field can go
  module _ (k : ℕ) (good : ℕ → Bool) (wrong at : ℕ) where
    pub field_refused : {n p : ℕ} → read_number f k at ≡ refused n p → field f k good wrong at ≡ refused n p
    unfolding field
    field_refused h = rw h

    pub field_wrong : {n : ℕ} → read_number f k at ≡ accepted n → good n ≡ false → field f k good wrong at ≡ refused wrong at
    unfolding field
    field_wrong h g = rw (h, g)

    pub field_good : {n : ℕ} → read_number f k at ≡ accepted n → good n ≡ true → field f k good wrong at ≡ accepted (n, at + k)
    unfolding field
    field_good h g = rw (h, g)

    -- a field that was accepted
    pub record Taken (n e : ℕ) : Type 0 where
      pub number : Number k at n
      pub passes : good n ≡ true
      pub next : e ≡ at + k

    pub taken : {n e : ℕ} → field f k good wrong at ≡ accepted (n, e) → Taken n e
    unfolding field
    taken h =
        let o = through (read_number f k at) h in
        let p = through (check (good o.got) wrong at) o.then in
        let v = value_of_lem p.then in
        record {
          number = rw v at (number_read k at o.first);
          passes = rw v at (checked (good o.got) wrong at p.first);
          next = sym (next_of_lem p.then);
        }

  -- a field of one byte
  module _ (good : ℕ → Bool) (wrong at : ℕ) where
    pub byte_ends : length f ≤ at → field f 1 good wrong at ≡ refused 1 at
    byte_ends h = field_refused 1 good wrong at (number_ends 1 at (omega arith))

    one : at < length f → read_number f 1 at ≡ accepted (get_or f at 0)
    one h = number_reads 1 at (omega arith) ∙ ap accepted (number_one f at h)

    pub byte_wrong : at < length f → good (get_or f at 0) ≡ false → field f 1 good wrong at ≡ refused wrong at
    byte_wrong h g = field_wrong 1 good wrong at (one h) g

    pub byte_good : at < length f → good (get_or f at 0) ≡ true → field f 1 good wrong at ≡ accepted (get_or f at 0, at + 1)
    byte_good h g = field_good 1 good wrong at (one h) g

  -- the ways in which a count can go
  module _ (low high at : ℕ) where
    abbrev In_range : ℕ → Bool
    In_range n = leb low n && leb n high

    pub count_refused : {n p : ℕ} → read_number f 1 at ≡ refused n p → read_count f low high at ≡ refused n p
    unfolding read_count
    count_refused h = field_refused 1 In_range 3 at h

    pub count_low : {n : ℕ} → read_number f 1 at ≡ accepted n → n < low → read_count f low high at ≡ refused 3 at
    unfolding read_count
    count_low {n} h l = field_wrong 1 In_range 3 at h (rw (lt-leb low n l))

    pub count_high : {n : ℕ} → read_number f 1 at ≡ accepted n → low ≤ n → high < n → read_count f low high at ≡ refused 3 at
    unfolding read_count
    count_high {n} h l g = field_wrong 1 In_range 3 at h (rw (le-leb low n l, lt-leb n high g))

    pub count_good : {n : ℕ} → read_number f 1 at ≡ accepted n → low ≤ n → n ≤ high → read_count f low high at ≡ accepted (n, at + 1)
    unfolding read_count
    count_good {n} h l g = field_good 1 In_range 3 at h (rw (le-leb low n l, le-leb n high g))

  -- the ways in which a value can go
  module _ (d at : ℕ) where
    pub value_ends : length f ≤ at → read_value f d at ≡ refused 1 at
    unfolding read_value
    value_ends h = byte_ends (λ x. ltb x d) 4 at h

    pub value_outside : at < length f → d ≤ get_or f at 0 → read_value f d at ≡ refused 4 at
    unfolding read_value
    value_outside h g = byte_wrong (λ x. ltb x d) 4 at h (le-ltb (get_or f at 0) d g)

    pub value_inside : at < length f → get_or f at 0 < d → read_value f d at ≡ accepted (get_or f at 0, at + 1)
    unfolding read_value
    value_inside h g = byte_good (λ x. ltb x d) 4 at h (lt-ltb (get_or f at 0) d g)

  -- ---- the kinds of field

  pub record Counted (low high at n e : ℕ) : Type 0 where
    pub least : low ≤ n
    pub most : n ≤ high
    pub fits : at + 1 ≤ length f
    pub value : number_at 1 f at ≡ n
    pub next : e ≡ at + 1

  pub count_read : (low high at : ℕ) {n e : ℕ} → read_count f low high at ≡ accepted (n, e) → Counted low high at n e
  unfolding read_count
  count_read low high at {n} h =
      let t = taken 1 (λ n. leb low n && leb n high) 3 at h in
      let b = (and-eq-true_iff (leb low n) (leb n high)).0 t.passes in
      record { least = leb-true low n b.0; most = leb-true n high b.1; fits = t.number.fits; value = t.number.value; next = t.next }

  pub record Valued (d at x e : ℕ) : Type 0 where
    pub under : x < d
    pub fits : at + 1 ≤ length f
    pub value : number_at 1 f at ≡ x
    pub next : e ≡ at + 1

  pub value_read : (d at : ℕ) {x e : ℕ} → read_value f d at ≡ accepted (x, e) → Valued d at x e
  unfolding read_value
  value_read d at {x} h =
      let t = taken 1 (λ x. ltb x d) 4 at h in
      record { under = ltb-true x d t.passes; fits = t.number.fits; value = t.number.value; next = t.next }

  pub record Mapped (n at map e : ℕ) : Type 0 where
    pub below : map < 2 ^ n
    pub fits : at + 8 ≤ length f
    pub value : number_at 8 f at ≡ map
    pub next : e ≡ at + 8

  pub map_read : (n at : ℕ) {map e : ℕ} → read_map f n at ≡ accepted (map, e) → Mapped n at map e
  unfolding read_map
  map_read n at {map} h =
      let t = taken 8 (λ map. ltb map (2 ^ n)) 5 at h in
      record { below = ltb-true map (2 ^ n) t.passes; fits = t.number.fits; value = t.number.value; next = t.next }

  pub record Weighed (at w e : ℕ) : Type 0 where
    pub fits : at + 2 ≤ length f
    pub value : number_at 2 f at ≡ w
    pub next : e ≡ at + 2

  pub weight_read : (at : ℕ) {w e : ℕ} → read_weight f at ≡ accepted (w, e) → Weighed at w e
  unfolding read_weight
  weight_read at h =
      let t = taken 2 (λ w. true) 3 at h in
      record { fits = t.number.fits; value = t.number.value; next = t.next }

  pub weight_most : Bytes f → (at : ℕ) {w e : ℕ} → read_weight f at ≡ accepted (w, e) → w ≤ 65535
  weight_most b at h = rw (weight_read at h).value at (two_below f at b)

  -- two bytes of a slice
  pub word_most : (at : ℕ) → ((i : ℕ) → get_or f i 0 < 256) → {n : ℕ} → read_number f 2 at ≡ accepted n → n ≤ 65535
  word_most at b h = rw (number_read 2 at h).value at (two_below f at (bytes_each f b))

  -- ---- values one after the other: the bytes as they stand, each inside its domain

  pub one_more : (k at next x : ℕ) (xs : List ℕ) → at < length f → x ≡ number_at 1 f at → next ≡ suc at → xs ≡ take k (drop next f) → x ∷ xs ≡ take (suc k) (drop at f)
  one_more k at next x xs l a b c = rw (drop-cons f at 0 l, a, number_one f at l, c, b)

  pub record ValuesRead (ds : List ℕ) (at : ℕ) (xs : List ℕ) (e : ℕ) : Type 0 where
    pub under : Zip Under ds xs
    pub bytes : xs ≡ take (length ds) (drop at f)
    pub next : e ≡ at + length ds
    pub fits : at ≤ length f → e ≤ length f

  pub values_read : (ds : List ℕ) (at : ℕ) {xs : List ℕ} {e : ℕ} → read_values f ds at ≡ accepted (xs, e) → ValuesRead ds at xs e
  unfolding read_values
  values_read [] at g = carried g (ValuesRead [] at) (record { under = nil; bytes = refl; next = omega arith; fits = λ l. l })
  values_read (d ∷ ds) at {xs} {e} g =
      let p = through (read_value f d at) g in
      let q = through (each (read_value f) ds p.got.1) p.then in
      let one = value_read d at p.first in
      let others = values_read ds p.got.1 q.first in
      carried q.then (ValuesRead (d ∷ ds) at) (record {
        under = cons one.under others.under;
        bytes = one_more (length ds) at p.got.1 p.got.0 q.got.0 (omega (arith, one.fits)) (sym one.value) (omega (arith, one.next)) others.bytes;
        next = omega (arith, one.next, others.next);
        fits = λ l. others.fits (omega (arith, one.next, one.fits));
      })

  -- ---- the end of the file

  pub end_read : (at : ℕ) {u : Unit {0}} → read_end f at ≡ accepted u → length f ≤ at
  unfolding read_end
  end_read at h = leb-true (length f) at (checked (leb (length f) at) 2 at h)
