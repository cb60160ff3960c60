-- Laws of little-endian numbers: joined bytes, what is written is read back, and how large k bytes can be.
use Rattle.std.specs.Prelude.{◌≡◌, refl, ℕ, zero, suc, ◌+◌, ◌*◌, ◌/◌, ◌%◌, ◌^◌, ◌≤◌, ◌<◌, min, List, [], ◌∷◌, ◌++◌, length, get_or, take, drop}
use Rattle.std.proofs.Common.{add_assoc, ap, sym, ◌∙◌, pow-suc, mul_assoc, mul_comm, arith, length-drop, length-take, drop-cons, take-add, drop-drop, length-take-le}
use Rattle.std.proofs.Math.Nat.{div-div-eq-div-mul}
use Rattle.std.specs.Int.{to_le_bytes, bytes_low_first}
use mir.Syntax.{w64}
use Rattle.facts.specs.Bytes.{little, number_at, bytes_of, Bytes}

-- ---- a number from its halves

little_append : (xs ys : List ℕ) → little (xs ++ ys) ≡ little xs + 256 ^ length xs * little ys
little_append [] ys = omega arith
little_append (x ∷ xs) ys =
    let e : 256 ^ suc (length xs) * little ys ≡ 256 * (256 ^ length xs * little ys) = simp (pow-suc, mul_comm (256 ^ length xs) 256, mul_assoc) in
    omega (arith, little_append xs ys)

pub number_halves : (n m : ℕ) (f : List ℕ) (at : ℕ) → at + n ≤ length f → number_at (n + m) f at ≡ number_at n f at + 256 ^ n * number_at m f (at + n)
unfolding number_at
number_halves n m f at h =
    let e : length (take n (drop at f)) ≡ n = length-take-le n (drop at f) (simp length-drop (omega arith)) in
    ap little (take-add n m (drop at f)) ∙ little_append (take n (drop at f)) (take m (drop n (drop at f))) ∙ rw (e, drop-drop)

pub number_one : (f : List ℕ) (at : ℕ) → at < length f → number_at 1 f at ≡ get_or f at 0
unfolding number_at
number_one f at h = rw (drop-cons f at 0 h) (omega arith)

pub number_two : (f : List ℕ) (at : ℕ) → at + 2 ≤ length f → number_at 2 f at ≡ get_or f at 0 + 256 * get_or f (at + 1) 0
number_two f at h = omega (arith, number_halves 1 1 f at (omega arith), number_one f at (omega arith), number_one f (at + 1) (omega arith))

number_four : (f : List ℕ) (at : ℕ) → at + 4 ≤ length f → number_at 4 f at ≡ get_or f at 0 + 256 * get_or f (at + 1) 0 + 65536 * get_or f (at + 2) 0 + 16777216 * get_or f (at + 3) 0
number_four f at h =
    let high : number_at 2 f (at + 2) ≡ get_or f (at + 2) 0 + 256 * get_or f (at + 3) 0 = number_two f (at + 2) (omega arith) ∙ rw (add_assoc at 2 1) in
    omega (arith, number_halves 2 2 f at (omega arith), number_two f at (omega arith), high)

pub number_eight : (f : List ℕ) (at : ℕ) → at + 8 ≤ length f → number_at 8 f at ≡ (get_or f at 0 + 256 * get_or f (at + 1) 0 + 65536 * get_or f (at + 2) 0 + 16777216 * get_or f (at + 3) 0)
    + 4294967296 * (get_or f (at + 4) 0 + 256 * get_or f (at + 5) 0 + 65536 * get_or f (at + 6) 0 + 16777216 * get_or f (at + 7) 0)
number_eight f at h =
    let high : number_at 4 f (at + 4) ≡ get_or f (at + 4) 0 + 256 * get_or f (at + 5) 0 + 65536 * get_or f (at + 6) 0 + 16777216 * get_or f (at + 7) 0 =
    number_four f (at + 4) (omega arith) ∙ rw (add_assoc at 4 1, add_assoc at 4 2, add_assoc at 4 3) in
    omega (arith, number_halves 4 4 f at (omega arith), number_four f at (omega arith), high)

-- ---- the library's bytes

low_bytes : (k i n : ℕ) → bytes_low_first (suc i) k n ≡ bytes_of k (n / 256 ^ suc i)
low_bytes zero i n = refl
low_bytes (suc k) i n =
    let next : n / 256 ^ suc (suc i) ≡ n / 256 ^ suc i / 256 = sym (div-div-eq-div-mul n (256 ^ suc i) 256 ∙ ap (λ p. n / p) (sym (pow-suc 256 (suc i)))) in
    ap (◌∷◌ (n / 256 ^ suc i % 256)) (low_bytes k (suc i) n ∙ ap (bytes_of k) next)

-- the bytes that `to_le_bytes` makes of a number of 64 bits are its 8 bytes
pub library_bytes : (n : ℕ) → to_le_bytes w64 n ≡ bytes_of 8 n
library_bytes n = ap (◌∷◌ (n % 256)) (low_bytes 7 0 n)

-- ---- written and read back

pub little_bytes : (k n : ℕ) → n < 256 ^ k → little (bytes_of k n) ≡ n
little_bytes zero n h = omega arith
little_bytes (suc k) n h = omega (arith, little_bytes k (n / 256) (omega arith))

pub length_bytes : (k n : ℕ) → length (bytes_of k n) ≡ k
length_bytes zero n = refl
length_bytes (suc k) n = ap suc (length_bytes k (n / 256))

-- ---- how large a number is

all_take : (k : ℕ) (f : List ℕ) → Bytes f → Bytes (take k f)
all_take zero f h = tt
all_take (suc k) [] h = tt
all_take (suc k) (b ∷ f) h = (h.0, all_take k f h.1)

all_drop : (k : ℕ) (f : List ℕ) → Bytes f → Bytes (drop k f)
all_drop zero f h = h
all_drop (suc k) [] h = tt
all_drop (suc k) (b ∷ f) h = all_drop k f h.1

pub two_below : (f : List ℕ) (at : ℕ) → Bytes f → number_at 2 f at ≤ 65535
unfolding number_at
two_below f at h = go (take 2 (drop at f)) (all_take 2 (drop at f) (all_drop at f h)) (length-take 2 (drop at f))
  where
    go : (g : List ℕ) → Bytes g → length g ≡ min 2 (length (drop at f)) → little g ≤ 65535
    go [] b e = omega arith
    go (x ∷ []) b e = omega arith
    go (x ∷ y ∷ []) b e = omega arith
    go (x ∷ y ∷ z ∷ g) b e = absurd (omega arith)

-- the elements of a slice of bytes, by index
pub bytes_each : (f : List ℕ) → ((i : ℕ) → get_or f i 0 < 256) → Bytes f
bytes_each [] h = tt
bytes_each (b ∷ f) h = (h 0, bytes_each f (λ i. h (suc i)))
