-- Writing at the front of a caller's buffer. Document 01, "Turned down": bytes beyond the result keep their contents, and a refusal changes none.
use Rattle.std.specs.Prelude.{ℕ, ◌≡◌, true, false, List, [], ◌++◌, leb, length, drop}
use Rattle.facts.specs.Read.{Read, accepted, refused, check, ◌>>=◌}

-- a buffer with bytes at its front, and past them as it was
unfoldable pub over : List ℕ → List ℕ → List ℕ
over bytes out = bytes ++ drop (length bytes) out

-- all of the bytes where the buffer has room for them, and none where it has not
unfoldable pub fitting : List ℕ → List ℕ → List ℕ
fitting bytes out = elim (leb (length bytes) (length out)) [ true ↦ bytes | false ↦ [] ]

-- The answer of an operation whose result goes into a buffer, with room for so many entries: the result's length; 7 comes last, with the length needed.
unfoldable pub length_in : ℕ → Read (List ℕ) → Read ℕ
length_in room result = do
  list ← result
  _ ← check (leb (length list) room) 7 (length list)
  accepted (length list)

-- The buffer afterwards: the result at its front where it has room for all of it, and as it was where anything is refused.
unfoldable pub written_in : List ℕ → Read (List ℕ) → List ℕ
written_in out result = elim result [ accepted list ↦ over (fitting list out) out | refused n p ↦ out ]

-- n bytes were written at the front of a buffer, which was `before` and is `now`
pub record Wrote (bytes before now : List ℕ) (n : ℕ) : Type 0 where
  pub count : n ≡ length bytes
  pub buffer : now ≡ over bytes before
