-- Text written into a lent buffer, one part straight after the other: each byte where there is room for it, and counted in any case.
use Rattle.std.specs.Prelude.{ℕ, ◌+◌, ◌≤◌, min, ◌≡◌, List, [], ◌∷◌, length, take, set}
use Prim.Native.Char.{code}
use Prim.Native.String.{String, [] as []ₛ, ◌∷◌ as ◌∷ₛ◌}

-- the bytes of a text of ASCII characters
abbrev pub bytes : String → List ℕ
bytes []ₛ = []
bytes (c ∷ₛ s) = code c ∷ bytes s

-- the largest index: no buffer is longer
abbrev pub largest : ℕ
largest = 18446744073709551615

-- the index after one byte at `at`, in the buffer or past its end; the largest stays
unfoldable pub next : ℕ → ℕ
next at = min (at + 1) largest

-- the buffer `out` with bytes from the index `at` on, as many as there is room for
abbrev pub put : List ℕ → ℕ → List ℕ → List ℕ
put [] at out = out
put (b ∷ bs) at out = put bs (next at) (set out at b)

-- the index past them
abbrev pub past : List ℕ → ℕ → ℕ
past [] at = at
past (b ∷ bs) at = past bs (next at)

-- Bytes were written from the index `at` on, up to `end`, into a buffer that was `before` and is `now`.
pub record Adds (bs before now : List ℕ) (at end : ℕ) : Type 0 where
  pub buffer : now ≡ put bs at before
  pub place : end ≡ past bs at

-- n counts bytes at the front of a buffer, as library `io` says it of `&buffer[..n]`
abbrev pub Counts : ℕ → List ℕ → Type 0
Counts n xs = (n ≤ length xs) × (n ≡ length (take n xs))
