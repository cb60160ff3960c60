-- Laws of printing: what is printed reads back as itself.
use Rattle.std.specs.Prelude.{ℕ, zero, suc, ◌+◌, ◌-◌, ◌*◌, ◌/◌, ◌%◌, ◌^◌, ◌≤◌, ◌<◌, ◌≡◌, refl, Bool, true, false, List, [], ◌∷◌, ◌++◌, ltb, length}
use Rattle.std.proofs.Common.{sym, ap, ap₂, ◌∙◌, append_assoc, arith, pow-suc, length-append, le-leb, le-ltb, lt-ltb, ltb-true, ltb-false}
use Rattle.facts.specs.Lists.{All}
use Rattle.text.specs.Text.{parsed, with_parsed, between, within, Standing, so_far, began, blank, digit, numbers_from, numbers_of, decimal_in, decimal, end_of, each_text, list_text}

-- ---- the digits

digit_is : (d : ℕ) → d < 10 → digit (48 + d) ≡ true
unfolding digit
digit_is d l = rw (le-leb 48 (48 + d) (omega arith), lt-ltb (48 + d) 58 (omega arith))

-- a digit is read
read_digit : (most : ℕ) (place : Standing) (p d n : ℕ) (rest : List ℕ) → d < 10 → n ≡ 10 * so_far place + d → n ≤ most
    → numbers_from most place p ((48 + d) ∷ rest) ≡ numbers_from most (within n (began place p)) (p + 1) rest
read_digit most place p d n rest l e m =
    let v : 10 * so_far place + (48 + d - 48) ≡ n = omega arith in
    rw (digit_is d l, numbers_from, le-leb (10 * so_far place + (48 + d - 48)) most (omega arith)) (ap (λ (k : ℕ). numbers_from most (within k (began place p)) (p + 1) rest) v)

-- the digits of a number are read as it, whatever follows
read_digits : (most k n p : ℕ) (rest : List ℕ) → n ≤ k → n ≤ most → numbers_from most between p (decimal_in k n ++ rest) ≡ numbers_from most (within n p) (p + length (decimal_in k n)) rest
read_digits most zero n p rest l m = read_digit most between p n n rest (omega arith) (omega arith) m
read_digits most (suc k) n p rest l m = go (ltb n 10) refl (read_digits most k (n / 10) p ((48 + n % 10) ∷ rest) (omega arith) (omega arith))
  where
    go : (t : Bool) → ltb n 10 ≡ t → numbers_from most between p (decimal_in k (n / 10) ++ (48 + n % 10) ∷ rest) ≡ numbers_from most (within (n / 10) p) (p + length (decimal_in k (n / 10))) ((48 + n % 10) ∷ rest)
        → numbers_from most between p (decimal_in (suc k) n ++ rest) ≡ numbers_from most (within n p) (p + length (decimal_in (suc k) n)) rest
    go true t ih = rw (t, decimal_in) (read_digit most between p n n rest (ltb-true n 10 t) (omega arith) m)
    go false t ih =
        let big : 10 ≤ n = ltb-false n 10 t in
        let at = p + length (decimal_in k (n / 10)) in
        let end : at + 1 ≡ p + length (decimal_in k (n / 10) ++ (48 + n % 10) ∷ []) = sym (ap (λ (j : ℕ). p + j) (length-append (decimal_in k (n / 10)) ((48 + n % 10) ∷ [])) ∙ omega arith) in
        rw (t, decimal_in, append_assoc (decimal_in k (n / 10)) ((48 + n % 10) ∷ []) rest)
        (ih
        ∙ read_digit most (within (n / 10) p) at (n % 10) n rest (omega arith) (omega arith) m
        ∙ ap (λ (q : ℕ). numbers_from most (within n p) q rest) end)

-- more steps than digits change nothing
steps_same : (j k n : ℕ) → n ≤ j → n ≤ k → decimal_in j n ≡ decimal_in k n
steps_same zero zero n l m = refl
steps_same zero (suc k) n l m = rw (lt-ltb n 10 (omega arith), decimal_in)
steps_same (suc j) zero n l m = rw (lt-ltb n 10 (omega arith), decimal_in)
steps_same (suc j) (suc k) n l m = go (ltb n 10) refl (steps_same j k (n / 10) (omega arith) (omega arith))
  where
    go : (t : Bool) → ltb n 10 ≡ t → decimal_in j (n / 10) ≡ decimal_in k (n / 10) → decimal_in (suc j) n ≡ decimal_in (suc k) n
    go true t ih = rw (t, decimal_in)
    go false t ih = rw (t, decimal_in, ih)

-- one digit
pub decimal_one : (n : ℕ) → n < 10 → decimal n ≡ (48 + n) ∷ []
unfolding decimal
decimal_one n l = steps_same n (suc n) n (omega arith) (omega arith) ∙ rw (lt-ltb n 10 l, decimal_in)

-- the last of several
pub decimal_more : (n : ℕ) → 10 ≤ n → decimal n ≡ decimal (n / 10) ++ (48 + n % 10) ∷ []
unfolding decimal
decimal_more n l = steps_same n (suc n) n (omega arith) (omega arith) ∙ rw (le-ltb n 10 l, decimal_in) (ap (λ (ds : List ℕ). ds ++ (48 + n % 10) ∷ []) (steps_same n (n / 10) (n / 10) (omega arith) (omega arith)))

pub length_one : (n : ℕ) → n < 10 → length (decimal n) ≡ 1
length_one n l = ap length (decimal_one n l)

pub length_more : (n : ℕ) → 10 ≤ n → length (decimal n) ≡ length (decimal (n / 10)) + 1
length_more n l = ap length (decimal_more n l) ∙ length-append (decimal (n / 10)) ((48 + n % 10) ∷ [])

pub read_decimal : (most n p : ℕ) (rest : List ℕ) → n ≤ most → numbers_from most between p (decimal n ++ rest) ≡ numbers_from most (within n p) (p + length (decimal n)) rest
unfolding decimal
read_decimal most n p rest m = read_digits most n n p rest (omega arith) m

-- ---- the round trip

-- what ends a number is a blank
read_end_lem : (most n s p : ℕ) (xs rest : List ℕ) → numbers_from most (within n s) p (end_of xs ∷ rest) ≡ with_parsed (λ (ys : List ℕ). n ∷ ys) (numbers_from most between (p + 1) rest)
unfolding digit blank
read_end_lem most n s p [] rest = refl
read_end_lem most n s p (x ∷ xs) rest = refl

-- every number is at most `most`
abbrev pub AllMost : ℕ → List ℕ → Type 0
AllMost most [] = Unit {0}
AllMost most (x ∷ xs) = (x ≤ most) × AllMost most xs

read_each : (most p : ℕ) (xs : List ℕ) → AllMost most xs → numbers_from most between p (each_text xs) ≡ parsed xs
read_each most p [] h = refl
read_each most p (x ∷ xs) (m, h) =
    let end = p + length (decimal x) in
    read_decimal most x p (end_of xs ∷ each_text xs) m ∙ read_end_lem most x p end xs (each_text xs) ∙ ap (with_parsed (λ (ys : List ℕ). x ∷ ys)) (read_each most (end + 1) xs h)

-- what is printed of numbers reads back as them
pub round_trip : (most : ℕ) (xs : List ℕ) → AllMost most xs → numbers_of most (list_text xs) ≡ parsed xs
unfolding numbers_of list_text digit blank
round_trip most [] h = refl
round_trip most (x ∷ xs) h = read_each most 0 (x ∷ xs) h

-- ---- no two numbers have the same digits

pub decimal_same : (a b : ℕ) → decimal a ≡ decimal b → a ≡ b
unfolding list_text
decimal_same a b e =
    let reads : parsed (a ∷ []) ≡ parsed (b ∷ []) =
    sym (round_trip (a + b) (a ∷ []) (omega arith, tt)) ∙ ap (λ (ds : List ℕ). numbers_of (a + b) (ds ++ 10 ∷ [])) e ∙ round_trip (a + b) (b ∷ []) (omega arith, tt) in
    cc

-- digits are below 58
below_then : (ds : List ℕ) {d : ℕ} → All (λ d. d < 58) ds → d < 58 → All (λ d. d < 58) (ds ++ d ∷ [])
below_then [] h l = (l, tt)
below_then (x ∷ ds) h l = (h.0, below_then ds h.1 l)

digits_below : (k n : ℕ) → n ≤ k → All (λ d. d < 58) (decimal_in k n)
digits_below zero n l = (omega arith, tt)
digits_below (suc k) n l = go (ltb n 10) refl (digits_below k (n / 10) (omega arith))
  where
    go : (t : Bool) → ltb n 10 ≡ t → All (λ d. d < 58) (decimal_in k (n / 10)) → All (λ d. d < 58) (decimal_in (suc k) n)
    go true t h = rw (t, decimal_in) (omega (arith, ltb-true n 10 t), tt)
    go false t h = rw (t, decimal_in) (below_then (decimal_in k (n / 10)) h (omega arith))

-- what is before a byte that none of them is
before_same : (stop : ℕ) → 58 ≤ stop → (xs ys us vs : List ℕ) → All (λ d. d < 58) xs → All (λ d. d < 58) ys → xs ++ (stop ∷ us) ≡ ys ++ (stop ∷ vs) → (xs ≡ ys) × (us ≡ vs)
before_same stop l [] [] us vs g h e = (refl, cc)
before_same stop l [] (y ∷ ys) us vs g h e = let same : stop ≡ y = cc in absurd (omega (arith, h.0))
before_same stop l (x ∷ xs) [] us vs g h e = let same : x ≡ stop = cc in absurd (omega (arith, g.0))
before_same stop l (x ∷ xs) (y ∷ ys) us vs g h e =
    let head : x ≡ y = cc in
    let (same, rest) = before_same stop l xs ys us vs g.1 h.1 cc in
    (ap₂ (λ (d : ℕ) (ds : List ℕ). d ∷ ds) head same, rest)

-- so a number that such a byte ends is told from every other
pub decimal_then : (stop : ℕ) → 58 ≤ stop → (a b : ℕ) (us vs : List ℕ) → decimal a ++ (stop ∷ us) ≡ decimal b ++ (stop ∷ vs) → (a ≡ b) × (us ≡ vs)
unfolding decimal
decimal_then stop l a b us vs e =
    let (same, rest) = before_same stop l (decimal_in a a) (decimal_in b b) us vs (digits_below a a (omega arith)) (digits_below b b (omega arith)) e in
    (decimal_same a b same, rest)

-- ---- how long it is

-- a number below 10 ^ k has at most k digits
pub digits_most : (k n : ℕ) → n < 10 ^ suc k → length (decimal n) ≤ suc k
digits_most zero n l = omega (arith, length_one n l)
digits_most (suc k) n l = go (ltb n 10) refl (digits_most k (n / 10))
  where
    go : (t : Bool) → ltb n 10 ≡ t → (n / 10 < 10 ^ suc k → length (decimal (n / 10)) ≤ suc k) → length (decimal n) ≤ suc (suc k)
    go true t tenth = omega (arith, length_one n (ltb-true n 10 t))
    go false t tenth = omega (arith, length_more n (ltb-false n 10 t), tenth (omega (arith, pow-suc 10 (suc k))))

-- numbers of two bytes have at most five digits each, and a byte after them
pub each_most : (xs : List ℕ) → AllMost 65535 xs → length (each_text xs) ≤ 6 * length xs
each_most [] h = omega arith
each_most (x ∷ xs) (m, h) = omega (arith, length-append (decimal x) (end_of xs ∷ each_text xs), digits_most 4 x (omega arith), each_most xs h)

-- a list of at most 6,657 entries, one more than the longest, has at most 65,536 bytes
pub list_most : (xs : List ℕ) → AllMost 65535 xs → length xs ≤ 6657 → length (list_text xs) ≤ 65536
unfolding list_text
list_most [] h l = omega arith
list_most (x ∷ xs) h l = omega (arith, each_most (x ∷ xs) h)
