-- Laws of rows that are written into a buffer, one element after the other.
use Rattle.std.specs.Prelude.{◌≡◌, refl, List, [], ◌++◌, ℕ, ◌+◌, ◌-◌, ◌≤◌, length, take, drop}
use Rattle.std.proofs.Common.{ap, ◌∙◌, append-nil, append_assoc, arith, length-append, length-drop}
use borrow.Rule.Slice.PartMut.{put_mid}
use Rattle.facts.specs.Write.{over, Wrote}
use Rattle.facts.specs.WriteLaws.{wrote_inside, wrote_room, wrote_then}

-- what is left is `bytes` and then `more`
pub record Cut (rest bytes more : List ℕ) : Type 0 where
  pub cut : rest ≡ bytes ++ more

-- `whole` is what is to be written in all, and `rest` what is left of it
pub record Going (whole rest before now : List ℕ) (at : ℕ) : Type 0 where
  pub done : List ℕ
  pub wrote : Wrote done before now at
  pub left : whole ≡ done ++ rest

pub going_start : (whole out : List ℕ) → Going whole whole out out 0
unfolding over
going_start whole out = record { done = []; wrote = record { count = refl; buffer = refl }; left = refl }

module _ {whole rest before now : List ℕ} {at : ℕ} (g : Going whole rest before now at) (fits : length whole ≤ length before) where
  lengths : length whole ≡ length g.done + length rest
  lengths = ap length g.left ∙ length-append g.done rest

  pub going_inside : at ≤ length now
  going_inside = wrote_inside g.wrote (omega (arith, lengths))

  pub going_same : length now ≡ length before
  unfolding over
  going_same = rw g.wrote.buffer (simp (length-append, length-drop) (omega (arith, lengths)))

  pub going_room : {bytes more : List ℕ} → Cut rest bytes more → length bytes ≤ length (take (length now - at) (drop at now))
  going_room {bytes} {more} e = wrote_room g.wrote (omega (arith, lengths, ap length e.cut ∙ length-append bytes more))

  pub going_more : {bytes more last : List ℕ} {n : ℕ} → Cut rest bytes more → Wrote bytes (take (length now - at) (drop at now)) last n
      → Going whole more before (put_mid at (length now - at) now last) (at + n)
  going_more {bytes} {more} e w = record {
    done = g.done ++ bytes;
    wrote = wrote_then g.wrote w;
    left = g.left ∙ rw (e.cut, append_assoc);
  }

  pub going_end : rest ≡ [] → Wrote whole before now at
  going_end e = rw (g.left, e, append-nil) g.wrote
