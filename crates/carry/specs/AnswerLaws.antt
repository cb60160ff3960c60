-- Laws of the answer and the buffer of either operation, and of entries that are written one after the other.
use Rattle.std.specs.Prelude.{◌≡◌, ℕ, suc, ◌+◌, ◌≤◌, ◌<◌, List, [], ◌∷◌, ◌++◌, length, get_or, drop, set}
use Rattle.std.proofs.Common.{sym, ap, ◌∙◌, add-one, arith, append_assoc, length-append, drop-cons}
use Rattle.std.proofs.lemmas.List.{set_at}
use Rattle.facts.specs.Read.{Read, accepted, refused, with_value}
use Rattle.facts.specs.Write.{over, length_in, Wrote}
use Rattle.facts.specs.WriteLaws.{refused_in as no-list, short_in as short-list, wrote_in as wrote-list}
use Rattle.facts.specs.WriteRowLaws.{Cut, Going, going_same}
use Rattle.carry.specs.CarryFile.{list_of, answer_in, buffer_in}
use Rattle.carry.specs.SameSumLaws.{answer_with}

-- ---- what is written one entry after the other

-- One entry is written straight after what is written.
pub wrote_entry : {entries before now : List ℕ} {at : ℕ} (x : ℕ) → length entries < length before → Wrote entries before now at → Wrote (entries ++ (x ∷ [])) before (set now at x) (at + 1)
unfolding over
wrote_entry {entries} {before} {now} {at} x l w =
    let place : length entries ≡ at = sym w.count in
    let long : length (entries ++ (x ∷ [])) ≡ suc (length entries) = length-append entries (x ∷ []) ∙ add-one (length entries) in
    let split = w.buffer ∙ ap (λ (z : List ℕ). entries ++ z) (drop-cons before (length entries) 0 l) in
    let stored = ap (λ (z : List ℕ). set z at x) split ∙ set_at entries (get_or before (length entries) 0) (drop (suc (length entries)) before) x at place in
    record { count = omega (arith, long); buffer = stored ∙ rw (long, append_assoc entries (x ∷ []) (drop (suc (length entries)) before)) }

module _ {whole rest before now more : List ℕ} {at x : ℕ} (g : Going whole rest before now at) (fits : length whole ≤ length before) (e : Cut rest (x ∷ []) more) where
  -- What is written, the next entry and what is after it are all that is to be written.
  entries_long : length whole ≡ length g.done + suc (length more)
  entries_long = ap length (g.left ∙ ap (λ (z : List ℕ). g.done ++ z) e.cut) ∙ length-append g.done ((x ∷ []) ++ more)

  -- There is room for the next entry.
  pub entry_room : at < length now
  entry_room = omega (arith, entries_long, g.wrote.count, going_same g fits)

  -- Once it is written, what is after it is left.
  pub entry_more : Going whole more before (set now at x) (at + 1)
  entry_more = record {
    done = g.done ++ (x ∷ []);
    wrote = wrote_entry x (omega (arith, entries_long)) g.wrote;
    left = g.left ∙ ap (λ (z : List ℕ). g.done ++ z) e.cut ∙ sym (append_assoc g.done (x ∷ []) more);
  }

-- ---- the answer and the buffer, of either operation

module _ {carried : Read (List ℕ × ℕ)} where
  -- A refusal writes nothing.
  pub refused_in : (out : List ℕ) {n p : ℕ} → carried ≡ refused n p → (refused n p ≡ answer_in (length out) carried) × (out ≡ buffer_in out carried)
  unfolding answer_in
  refused_in out h = (rw h, (no-list out (ap list_of h)).1)

  module _ {list : List ℕ} {c : ℕ} (h : carried ≡ accepted (list, c)) where
    -- What is answered and written for the list is answered with the sum.
    with_sum : (out : List ℕ) {now : List ℕ} {answer : Read ℕ} → (answer ≡ length_in (length out) (list_of carried)) × (now ≡ buffer_in out carried)
        → (with_value (λ (n : ℕ). (n, c)) answer ≡ answer_in (length out) carried) × (now ≡ buffer_in out carried)
    with_sum out r = (ap (with_value (λ (n : ℕ). (n, c))) r.0 ∙ sym (answer_with h (length out)), r.1)

    -- Nor does a buffer that is too short.
    pub short_in : (out : List ℕ) {needed : ℕ} → needed ≡ length list → length out < needed → (refused 7 needed ≡ answer_in (length out) carried) × (out ≡ buffer_in out carried)
    short_in out e l = with_sum out (short-list (ap list_of h) out e l)

    -- Else the list is written, and its length and its sum are the answer.
    pub wrote_in : {out now : List ℕ} {n : ℕ} → length list ≤ length out → Wrote list out now n → (accepted (n, c) ≡ answer_in (length out) carried) × (now ≡ buffer_in out carried)
    wrote_in {out} l w = with_sum out (wrote-list (ap list_of h) l w)
