-- Laws of actions with what they cost: their lines one after the other.
use Rattle.std.specs.Prelude.{ℕ, suc, ◌+◌, ◌*◌, ◌-◌, ◌≤◌, ◌<◌, ◌≡◌, refl, List, [], ◌∷◌, ◌++◌, length, get_or, take, drop}
use Rattle.std.proofs.Common.{ap, ap₂, subst, ◌∙◌, add-one, arith, length-append, length-take, length-drop, drop_of_length-le, drop-cons}
use borrow.Rule.Slice.PartMut.{put_mid}
use Rattle.facts.specs.Lists.{All}
use Rattle.facts.specs.Write.{Wrote}
use Rattle.facts.specs.WriteRowLaws.{Cut, Going, going_start, going_inside, going_same, going_room, going_more, going_end}
use Rattle.line_writer.specs.Lines.{Entry, line_text, last_text, lines_text, entries_from}
use Rattle.line_writer.specs.Columns.{line_bytes, most_sum, Narrow}
use Rattle.line_writer.specs.LineLaws.{lines_long, last_long}

-- an action with its numbers
abbrev pub entry_of : ℕ → ℕ → ℕ → ℕ → Entry
entry_of i a c sum = record { index = i; action = a; cost = c; sum = sum }

-- As many as both have.
entries_long : (i sum : ℕ) (list costs : List ℕ) → length costs ≡ length list → length (entries_from i sum list costs) ≡ length list
entries_long i sum [] costs e = refl
entries_long i sum (a ∷ list) [] e = absurd (omega arith)
entries_long i sum (a ∷ list) (c ∷ costs) e = ap suc (entries_long (suc i) (sum + c) list costs (omega arith))

-- The lines and the last line have 25 bytes each.
pub text_long : (list costs : List ℕ) → length costs ≡ length list → All Narrow (entries_from 0 0 list costs) → {sum : ℕ} → sum ≤ most_sum
    → length (lines_text (entries_from 0 0 list costs) ++ last_text sum) ≡ line_bytes * (length list + 1)
text_long list costs same narrow {sum} few =
    let es = entries_from 0 0 list costs in
    omega (arith, length-append (lines_text es) (last_text sum), lines_long es narrow, last_long sum few, entries_long 0 0 list costs same)

-- ---- lines one after the other

-- the lines from entry i on are left, with `sum` paid, and their numbers fit their fields
pub record Lining (list costs : List ℕ) (i sum : ℕ) (before now : List ℕ) (at : ℕ) : Type 0 where
  pub going : Going (lines_text (entries_from 0 0 list costs)) (lines_text (entries_from i sum (drop i list) (drop i costs))) before now at
  pub narrow : All Narrow (entries_from i sum (drop i list) (drop i costs))

module _ (list costs : List ℕ) (same : length costs ≡ length list) where
  -- all lines have room
  pub lines_fit : All Narrow (entries_from 0 0 list costs) → {room : ℕ} → line_bytes * length list ≤ room → length (lines_text (entries_from 0 0 list costs)) ≤ room
  lines_fit narrow l = omega (arith, lines_long (entries_from 0 0 list costs) narrow, entries_long 0 0 list costs same)

  pub lining_start : All Narrow (entries_from 0 0 list costs) → (out : List ℕ) → Lining list costs 0 0 out out 0
  lining_start narrow out = record { going = going_start (lines_text (entries_from 0 0 list costs)) out; narrow = narrow }

  module _ {i sum : ℕ} {before now : List ℕ} {at : ℕ} (g : Lining list costs i sum before now at) (fits : length (lines_text (entries_from 0 0 list costs)) ≤ length before) where
    pub lining_long : length now ≡ length before
    lining_long = going_same g.going fits

    pub lining_inside : at ≤ length now
    lining_inside = going_inside g.going fits

    pub lining_done : length list ≤ i → Wrote (lines_text (entries_from 0 0 list costs)) before now at
    lining_done l = going_end g.going fits (ap (λ (xs : List ℕ). lines_text (entries_from i sum xs (drop i costs))) (drop_of_length-le list l))

    module _ (l : i < length list) where
      abbrev here : Entry
      here = entry_of i (get_or list i 0) (get_or costs i 0) (sum + get_or costs i 0)

      abbrev later : List Entry
      later = entries_from (i + 1) (sum + get_or costs i 0) (drop (i + 1) list) (drop (i + 1) costs)

      split : entries_from i sum (drop i list) (drop i costs) ≡ here ∷ later
      split = ap₂ (entries_from i sum) (drop-cons list i 0 l) (drop-cons costs i 0 (omega arith)) ∙ rw (add-one i)

      -- the next action's numbers fit their fields
      pub lining_narrow : Narrow here
      lining_narrow = (subst (All Narrow) split g.narrow).0

      one_more : Cut (lines_text (entries_from i sum (drop i list) (drop i costs))) (line_text here) (lines_text later)
      one_more = record { cut = ap lines_text split }

      -- its line has room
      pub lining_room : length (line_text here) ≤ length (take (length now - at) (drop at now))
      lining_room = going_room g.going fits one_more

      pub lining_end : at + length (line_text here) ≤ length now
      lining_end = omega (arith, lining_room, length-take (length now - at) (drop at now), length-drop at now, lining_inside)

      pub lining_next : {last : List ℕ} {n : ℕ} → Wrote (line_text here) (take (length now - at) (drop at now)) last n
          → Lining list costs (i + 1) (sum + get_or costs i 0) before (put_mid at (length now - at) now last) (at + n)
      lining_next w = record { going = going_more g.going fits one_more w; narrow = (subst (All Narrow) split g.narrow).1 }
