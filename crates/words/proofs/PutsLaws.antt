-- Laws of a text that is counted, and then written if there is room.
use Rattle.std.specs.Prelude.{ℕ, ◌≤◌, ◌<◌, ◌≡◌, refl, List, length}
use Rattle.std.specs.Borrow.{MutBor}
use Rattle.std.proofs.Common.{ap, ◌∙◌, arith}
use Rattle.facts.specs.Read.{accepted, refused}
use Rattle.facts.specs.Write.{length_in, written_in}
use Rattle.facts.specs.WriteLaws.{short_in, wrote_in}
use Rattle.text.specs.declared.append.Writer.{Writer}
use Rattle.text.specs.Append.{largest, Adds}
use Rattle.text.specs.AppendLaws.{adds_end, adds_wrote}
use Rattle.text.specs.Writer.{Starts, Appends}

-- What a writer wrote from the front of a buffer on.
from_front : {text : List ℕ} {out : MutBor (List ℕ)} {first last : Writer} → Starts out first → Appends text first last → Adds text out.now last.out.now 0 last.at
from_front s v = rw (← s.buffer, ← s.front) v.adds

module _ {text : List ℕ} {out : MutBor (List ℕ)} {first last : Writer} {n : ℕ} (few : length text ≤ largest) (start : Starts out first) (wrote : Appends text first last) (end : n ≡ last.at) where
  -- Its length is the text's, in a buffer of any length.
  pub counted : n ≡ length text
  counted = end ∙ adds_end few (from_front start wrote)

  -- So another buffer is too short;
  pub too_short : (other : List ℕ) → length other < n → (refused 7 n ≡ length_in (length other) (accepted text)) × (other ≡ written_in other (accepted text))
  too_short other l = short_in refl other counted l

  -- or has room, as this one, and then the text stands there.
  pub all_written : {needed : ℕ} → needed ≡ length text → needed ≤ length out.now → (accepted n ≡ length_in (length out.now) (accepted text)) × (last.out.now ≡ written_in out.now (accepted text))
  all_written e l =
      let room : length text ≤ length out.now = omega arith in
      let w = wrote_in refl room (adds_wrote few room (from_front start wrote)) in
      (ap accepted end ∙ w.0, w.1)
