-- Laws of the costs of a list's actions as it runs: the ways in which a turn can go, and the costs noted one after the other.
use Rattle.std.specs.Prelude.{ℕ, suc, ◌+◌, ◌≤◌, ◌<◌, ◌≡◌, refl, List, [], ◌∷◌, length, get_or, drop, set}
use Rattle.std.proofs.Common.{sym, ap, ◌∙◌, lt_of_not-le, add-one, arith, drop_of_length-le, drop-cons, le-ltb, lt-ltb}
use Rattle.std.proofs.Math.Decide.{dec_le}
use Rattle.facts.specs.Partial.{Partial}
use Rattle.facts.specs.Run.{Move, next, blocked, Reaches, ends, steps}
use Rattle.facts.specs.Write.{over}
use Rattle.facts.specs.WriteRowLaws.{Cut, Going, going_start, going_same, going_end}
use Rattle.carry.specs.AnswerLaws.{entry_room, entry_more}
use Rattle.sheet.specs.Sheet.{costs_from}

-- ---- the ways in which a turn can go

module _ (count : ℕ) (move : ℕ → List ℕ → Move) (a : ℕ) (list s : List ℕ) where
  pub costs_more : {s' : List ℕ} {c : ℕ} → a < count → move a s ≡ next s' c → costs_from count move (a ∷ list) s ≡ c ∷ costs_from count move list s'
  costs_more l m = rw (lt-ltb a count l, costs_from, m)

  costs_none : count ≤ a → costs_from count move (a ∷ list) s ≡ []
  costs_none l = rw (le-ltb a count l, costs_from)

  costs_stop : a < count → move a s ≡ blocked → costs_from count move (a ∷ list) s ≡ []
  costs_stop l m = rw (lt-ltb a count l, costs_from, m)

-- There are no more of them than actions.
costs_few : (count : ℕ) (move : ℕ → List ℕ → Move) (list s : List ℕ) → length (costs_from count move list s) ≤ length list
costs_few count move [] s = omega arith
costs_few count move (a ∷ list) s =
    elim (dec_le count a) [ yes l ↦ omega (arith, ap length (costs_none count move a list s l)) | no l ↦ did (lt_of_not-le l) (move a s) refl (λ e. costs_few count move list e) ]
  where
    did : a < count → (m : Move) → move a s ≡ m → ((e : List ℕ) → length (costs_from count move list e) ≤ length list) → length (costs_from count move (a ∷ list) s) ≤ suc (length list)
    did l (next e c) h few = omega (arith, ap length (costs_more count move a list s l h), few e)
    did l blocked h few = omega (arith, ap length (costs_stop count move a list s l h))

-- As many as there are in a plan, where only numbers below `count` are actions.
pub costs_all : (count : ℕ) (move : ℕ → List ℕ → Move) (goal : Partial) → ((a : ℕ) (s e : List ℕ) (c : ℕ) → move a s ≡ next e c → a < count) → (paid : ℕ) (list s : List ℕ) (c : ℕ) → Reaches move goal paid list s c
    → length (costs_from count move list s) ≡ length list
costs_all count move goal known paid [] s c (ends g) = refl
costs_all count move goal known paid (a ∷ list) s c (steps {paid = k} {s' = e} m r) = ap length (costs_more count move a list s (known a s e k m) m) ∙ ap suc (costs_all count move goal known (paid + k) list e c r)

-- ---- costs noted one after the other

-- what is left of the list from entry i on costs, from the state s, what is left to be noted
pub record Noting (count : ℕ) (move : ℕ → List ℕ → Move) (list from : List ℕ) (i : ℕ) (s before now : List ℕ) : Type 0 where
  pub going : Going (costs_from count move list from) (costs_from count move (drop i list) s) before now i

pub noting_start : (count : ℕ) (move : ℕ → List ℕ → Move) (list from out : List ℕ) → Noting count move list from 0 from out out
noting_start count move list from out = record { going = going_start (costs_from count move list from) out }

module _ {count : ℕ} {move : ℕ → List ℕ → Move} {list from : List ℕ} {i : ℕ} {s before now : List ℕ} (g : Noting count move list from i s before now) (room : length list ≤ length before) where
  fits : length (costs_from count move list from) ≤ length before
  fits = omega (arith, costs_few count move list from)

  pub noting_long : length now ≡ length before
  noting_long = going_same g.going fits

  -- nothing more costs anything
  ended : costs_from count move (drop i list) s ≡ [] → now ≡ over (costs_from count move list from) before
  ended e = (going_end g.going fits e).buffer

  pub noting_done : length list ≤ i → now ≡ over (costs_from count move list from) before
  noting_done l = ended (ap (λ (xs : List ℕ). costs_from count move xs s) (drop_of_length-le list l))

  module _ (l : i < length list) where
    turn : costs_from count move (drop i list) s ≡ costs_from count move (get_or list i 0 ∷ drop (suc i) list) s
    turn = ap (λ (xs : List ℕ). costs_from count move xs s) (drop-cons list i 0 l)

    pub noting_missing : count ≤ get_or list i 0 → now ≡ over (costs_from count move list from) before
    noting_missing h = ended (turn ∙ costs_none count move (get_or list i 0) (drop (suc i) list) s h)

    pub noting_blocked : get_or list i 0 < count → blocked ≡ move (get_or list i 0) s → now ≡ over (costs_from count move list from) before
    noting_blocked h m = ended (turn ∙ costs_stop count move (get_or list i 0) (drop (suc i) list) s h (sym m))

    module _ {e : List ℕ} {c : ℕ} (h : get_or list i 0 < count) (m : next e c ≡ move (get_or list i 0) s) where
      one_more : Cut (costs_from count move (drop i list) s) (c ∷ []) (costs_from count move (drop (i + 1) list) e)
      one_more = record { cut = turn ∙ costs_more count move (get_or list i 0) (drop (suc i) list) s h (sym m) ∙ rw (add-one i) }

      pub noting_room : i < length now
      noting_room = entry_room g.going fits one_more

      pub noting_next : Noting count move list from (i + 1) e before (set now i c)
      noting_next = record { going = entry_more g.going fits one_more }

-- ---- moves that agree on the actions that there are

module _ (count : ℕ) (move other : ℕ → List ℕ → Move) (P : List ℕ → Type 0) (same : (a : ℕ) (s : List ℕ) → a < count → P s → move a s ≡ other a s)
    (kept : (a : ℕ) (s e : List ℕ) (c : ℕ) → a < count → P s → move a s ≡ next e c → P e) where
  pub costs_same : (list s : List ℕ) → P s → costs_from count move list s ≡ costs_from count other list s
  costs_same [] s p = refl
  costs_same (a ∷ list) s p =
      elim (dec_le count a) [
        | yes l ↦ costs_none count move a list s l ∙ sym (costs_none count other a list s l)
        | no l ↦ did (lt_of_not-le l) (move a s) refl (λ e q. costs_same list e q)
      ]
    where
      did : a < count → (m : Move) → move a s ≡ m → ((e : List ℕ) → P e → costs_from count move list e ≡ costs_from count other list e) → costs_from count move (a ∷ list) s ≡ costs_from count other (a ∷ list) s
      did l (next e c) h on =
          costs_more count move a list s l h
          ∙ ap (λ (cs : List ℕ). c ∷ cs) (on e (kept a s e c l p h))
          ∙ sym (costs_more count other a list s l (sym (same a s l p) ∙ h))
      did l blocked h on = costs_stop count move a list s l h ∙ sym (costs_stop count other a list s l (sym (same a s l p) ∙ h))
