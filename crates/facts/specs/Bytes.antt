-- Little-endian numbers: read from bytes, written as bytes. Document 01, "The task file".
use Rattle.std.specs.Prelude.{ℕ, zero, suc, ◌+◌, ◌*◌, ◌/◌, ◌%◌, ◌<◌, List, [], ◌∷◌, take, drop}
use Rattle.facts.specs.Lists.{All}

-- the number whose bytes these are, the lowest first
abbrev pub little : List ℕ → ℕ
little [] = 0
little (b ∷ bs) = b + 256 * little bs

-- the number of the k bytes at an offset of the file f
unfoldable pub number_at : ℕ → List ℕ → ℕ → ℕ
number_at k f at = little (take k (drop at f))

-- the k bytes of a number, the lowest first
abbrev pub bytes_of : ℕ → ℕ → List ℕ
bytes_of zero n = []
bytes_of (suc k) n = n % 256 ∷ bytes_of k (n / 256)

-- each is a byte
abbrev pub Bytes : List ℕ → Type 0
Bytes f = All (λ b. b < 256) f
