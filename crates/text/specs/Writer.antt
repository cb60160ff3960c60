-- Text written by a writer into the buffer that it was lent.
use Rattle.std.specs.Prelude.{ℕ, ◌≡◌, List}
use Rattle.std.specs.Borrow.{MutBor}
use Rattle.text.specs.declared.append.Writer.{Writer}
use Rattle.text.specs.Append.{Adds}

-- A writer stands at the front of a buffer, and nothing was written yet.
pub record Starts (out : MutBor (List ℕ)) (w : Writer) : Type 0 where
  pub same : w.out.ghost_name ≡ out.ghost_name
  pub buffer : w.out.now ≡ out.now
  pub front : w.at ≡ 0

-- A writer stands at an index of a buffer, in it or past its end, and nothing was written yet.
pub record StartsAt (at : ℕ) (out : MutBor (List ℕ)) (w : Writer) : Type 0 where
  pub same : w.out.ghost_name ≡ out.ghost_name
  pub buffer : w.out.now ≡ out.now
  pub place : w.at ≡ at

-- Bytes were written straight after what there was, into the same buffer, by a writer that was `before` and is `now`.
pub record Appends (bs : List ℕ) (before now : Writer) : Type 0 where
  pub same : now.out.ghost_name ≡ before.out.ghost_name
  pub adds : Adds bs before.out.now now.out.now before.at now.at
