-- Laws of what is written at the front of a buffer, and straight after that.
use Rattle.std.specs.Prelude.{◌≡◌, refl, Bool, true, false, ℕ, ◌+◌, ◌-◌, ◌≤◌, ◌<◌, leb}
use Rattle.std.proofs.Common.{sym, ap₂, ◌∙◌, take_all}
use Rattle.std.proofs.Math.Path.{ap}
use mathlib.Core.List.{List, [], ◌++◌, append-nil, append_assoc}
use native.Mathlib.Omega.{arith}
use Rattle.std.proofs.Math.ListN.{length, take, drop, length-append, length-drop, drop_of_length-le}
use Rattle.std.proofs.Math.Seq.{take_at, drop_at, drop-drop, take-length, drop-length}
use borrow.Author.Tests.{le-leb, lt-leb, leb-true, leb-false}
use borrow.Rule.Slice.PartMut.{put_mid}
use Rattle.facts.specs.Read.{Read, accepted, refused, check, with_value, ◌>>=◌}
use Rattle.facts.specs.ReadLaws.{not_refused, through, checked}
use Rattle.facts.specs.Write.{over, fitting, length_in, written_in, Wrote}

pub fitting_all : (bytes out : List ℕ) → length bytes ≤ length out → fitting bytes out ≡ bytes
unfolding fitting
fitting_all bytes out h = rw (le-leb (length bytes) (length out) h, fitting)

pub fitting_none : (bytes out : List ℕ) → length out < length bytes → fitting bytes out ≡ []
unfolding fitting
fitting_none bytes out h = rw (lt-leb (length bytes) (length out) h, fitting)

-- nothing was written
pub wrote_none : (bytes out : List ℕ) → length out < length bytes → Wrote (fitting bytes out) out out 0
unfolding over
wrote_none bytes out h = rw (fitting_none bytes out h) (record { count = refl; buffer = refl })

pub wrote_all : {bytes before now : List ℕ} {n : ℕ} → length bytes ≤ length before → Wrote bytes before now n → Wrote (fitting bytes before) before now n
wrote_all {bytes} {before} h w = rw (fitting_all bytes before h) w

-- the part of a buffer from an index to its end
tail_whole : (at : ℕ) (l : List ℕ) → take (length l - at) (drop at l) ≡ drop at l
tail_whole at l = take_all (length l - at) (drop at l) (simp length-drop (omega arith))

length_over : (bytes out : List ℕ) → length bytes ≤ length out → length (over bytes out) ≡ length out
unfolding over
length_over bytes out h = simp (length-append, length-drop) (omega arith)

-- a copy of all of a slice
pub wrote_copy : (bytes out : List ℕ) {now : List ℕ} {n : ℕ} → n ≡ length bytes → now ≡ take (length bytes) bytes ++ drop (length bytes) out → Wrote bytes out now n
unfolding over
wrote_copy bytes out e h = record { count = e; buffer = h ∙ rw (take-length bytes) }

-- a slice copied over one of the same length
pub copied : (src dst : List ℕ) {now : List ℕ} → length src ≡ length dst → now ≡ take (length src) src ++ drop (length src) dst → now ≡ src
copied src dst e h = h ∙ rw (take-length src, e, drop-length dst, append-nil)

-- what is written after what is written: the rest of the buffer is lent, and comes back
module _ {bytes before now : List ℕ} {at : ℕ} (w : Wrote bytes before now at) where
  -- the next index is within the buffer, and past it is room for k bytes more
  pub wrote_inside : length bytes ≤ length before → at ≤ length now
  wrote_inside h = rw (w.count, w.buffer, length_over bytes before h) h

  pub wrote_room : {k : ℕ} → length bytes + k ≤ length before → k ≤ length (take (length now - at) (drop at now))
  wrote_room h = rw (tail_whole at now, length-drop at now, w.count, w.buffer, length_over bytes before (omega arith)) (omega arith)

  over_then : (more : List ℕ) {last : List ℕ} → last ≡ over more (take (length now - at) (drop at now)) → put_mid at (length now - at) now last ≡ over (bytes ++ more) before
  unfolding over
  over_then more {last} e =
      let d : drop at now ≡ drop (length bytes) before = ap (drop at) w.buffer ∙ drop_at bytes _ at (sym w.count) in
      let t : take at now ≡ bytes = ap (take at) w.buffer ∙ take_at bytes _ at (sym w.count) in
      let z : drop (length now - at) (drop at now) ≡ [] = drop_of_length-le (drop at now) {i = length now - at} (simp length-drop (omega arith)) in
      rw (z, t, e, tail_whole at now, d, append-nil, drop-drop (length more) (length bytes) before, length-append, append_assoc)

  pub wrote_then : {more last : List ℕ} {n : ℕ} → Wrote more (take (length now - at) (drop at now)) last n → Wrote (bytes ++ more) before (put_mid at (length now - at) now last) (at + n)
  wrote_then {more} v = record { count = rw (w.count, v.count, length-append bytes more); buffer = over_then more v.buffer }

-- What was written at the front of a buffer stands there.
pub over_front : (list out : List ℕ) → take (length list) (over list out) ≡ list
unfolding over
over_front list out = take_at list (drop (length list) out) (length list) refl

-- ---- the answer and the buffer of an operation

module _ {result : Read (List ℕ)} where
  -- a refusal writes nothing
  pub refused_in : (out : List ℕ) {n p : ℕ} → result ≡ refused n p → (refused n p ≡ length_in (length out) result) × (out ≡ written_in out result)
  unfolding length_in written_in
  refused_in out h = (rw h, rw (h, written_in))

  module _ {list : List ℕ} (h : result ≡ accepted list) where
    -- nor does a buffer that is too short
    pub short_in : (out : List ℕ) {needed : ℕ} → needed ≡ length list → length out < needed → (refused 7 needed ≡ length_in (length out) result) × (out ≡ written_in out result)
    unfolding length_in written_in over
    short_in out e l = let m : length out < length list = omega arith in (rw (h, lt-leb (length list) (length out) m, e), rw (h, written_in, fitting_none list out m))

    -- else the result's length is the answer, and the result is written
    pub length_in_lem : {room : ℕ} → length list ≤ room → length_in room result ≡ accepted (length list)
    unfolding length_in
    length_in_lem {room} l = rw (h, le-leb (length list) room l)

    pub written_in_lem : (out : List ℕ) → length list ≤ length out → written_in out result ≡ over list out
    unfolding written_in
    written_in_lem out l = rw (h, written_in, fitting_all list out l)

    pub wrote_in : {out now : List ℕ} {n : ℕ} → length list ≤ length out → Wrote list out now n → (accepted n ≡ length_in (length out) result) × (now ≡ written_in out result)
    wrote_in {out} l w = (ap accepted w.count ∙ sym (length_in_lem l), w.buffer ∙ sym (written_in_lem out l))

-- the result is a list that is so long, and there is room for it
pub record Fits (result : Read (List ℕ)) (room n : ℕ) : Type 0 where
  pub list : List ℕ
  pub is : result ≡ accepted list
  pub count : length list ≡ n
  pub fits : n ≤ room

module _ (result : Read (List ℕ)) where
  -- Where a length is answered, the result has that length, and fits.
  pub length_inv : (room : ℕ) {n : ℕ} → length_in room result ≡ accepted n → Fits result room n
  unfolding length_in
  length_inv room {n} h =
      let a = through result h in
      let list = a.got in
      let b = through (check (leb (length list) room) 7 (length list)) a.then in
      let same : length list ≡ n = cc b.then in
      record { list = list; is = a.first; count = same; fits = rw same at (leb-true (length list) room (checked (leb (length list) room) 7 (length list) b.first)) }

  -- So many entries at the front of the buffer are the result.
  pub written_inv : (out : List ℕ) {n : ℕ} → length_in (length out) result ≡ accepted n → result ≡ accepted (take n (written_in out result))
  written_inv out h =
      let a = length_inv (length out) h in
      a.is ∙ ap accepted (sym (over_front a.list out)) ∙ ap accepted (ap₂ take a.count (sym (written_in_lem a.is out (omega (arith, a.count, a.fits)))))

-- With room for whatever may be accepted there is no refusal but the result's own.
pub all_fit : (result : Read (List ℕ)) (room : ℕ) → ((list : List ℕ) → result ≡ accepted list → length list ≤ room) → length_in room result ≡ with_value length result
unfolding length_in
all_fit (accepted list) room h = rw (le-leb (length list) room (h list refl))
all_fit (refused n p) room h = refl

-- Where anything is refused, nothing is written.
pub unwritten : (result : Read (List ℕ)) (out : List ℕ) {n p : ℕ} → length_in (length out) result ≡ refused n p → written_in out result ≡ out
unfolding length_in written_in over
unwritten (refused k q) out h = refl
unwritten (accepted list) out {n} {p} h = go (leb (length list) (length out)) refl h
  where
    go : (b : Bool) → leb (length list) (length out) ≡ b → ◌>>=◌ (check b 7 (length list)) (λ u. accepted (length list)) ≡ refused n p → over (fitting list out) out ≡ out
    go true e h = absurd (not_refused (sym h))
    go false e h = rw (fitting_none list out (leb-false _ _ e))
