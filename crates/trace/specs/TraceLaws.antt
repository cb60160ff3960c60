-- Laws of traces: the parts that code writes one after the other.
use Rattle.std.specs.Prelude.{ℕ, suc, ◌+◌, ◌≤◌, ◌<◌, ◌≡◌, refl, Bool, true, false, List, [], ◌∷◌, ◌++◌, length, get_or, drop, Option, None, Some, is_some, IfSome, slice_get}
use Rattle.std.proofs.Common.{sym, ap, ap₂, subst, ◌∙◌, add-one, drop_of_length-le, drop-cons}
use Rattle.facts.specs.ListLaws.{found, at_length}
use Rattle.facts.specs.Partial.{Partial, holds, apply, partial_at, past_partial}
use Rattle.text.specs.Text.{decimal}
use Rattle.text.specs.Append.{bytes}
use Rattle.text.specs.declared.append.Writer.{Writer}
use Rattle.text.specs.Writer.{Appends}
use Rattle.text.specs.WriterLaws.{appends_then, Adding, adding_start, adding_more, adding_end}
use Rattle.steps.specs.Steps.{Named}
use Rattle.steps.specs.Seek.{found as sought, past, seek}
use Rattle.steps.specs.SeekLaws.{look_found, look_past}
use Rattle.failure.specs.InPlace.{pre_at, eff_at, advanced}
use Rattle.failure.specs.FailureLaws.{advanced_on}
use Rattle.trace.specs.Trace.{Entry, went, stuck, entry, entries, values_text, state_text, entry_text, entries_text, trace_text}
use Rattle.trace.specs.InPlace.{Entered}

-- ---- states

-- The value at an index, and those after it.
pub values_next : (s : List ℕ) (i : ℕ) → i < length s → values_text (drop i s) ≡ (bytes " " ++ decimal (get_or s i 0)) ++ values_text (drop (i + 1) s)
values_next s i l = ap values_text (drop-cons s i 0 l) ∙ ap (λ (j : ℕ). (bytes " " ++ decimal (get_or s i 0)) ++ values_text (drop j s)) (sym (add-one i))

pub values_end : (s : List ℕ) (i : ℕ) → length s ≤ i → values_text (drop i s) ≡ []
values_end s i l = ap values_text (drop_of_length-le s {i = i} l)

-- ---- one entry

module _ (k : ℕ) (x : Named) (pre eff : Partial) (sum : ℕ) (s : List ℕ) where
  -- It applies, or it does not.
  pub entry_went : holds pre s ≡ true → went k x pre eff (sum + x.cost) (apply eff s) ≡ entry k x pre eff sum s
  entry_went h = sym (ap (λ (t : Bool). elim t as (λ t. Entry) [ true ↦ went k x pre eff (sum + x.cost) (apply eff s) | false ↦ stuck k x pre s ]) h)

  pub entry_stuck : holds pre s ≡ false → stuck k x pre s ≡ entry k x pre eff sum s
  entry_stuck h = sym (ap (λ (t : Bool). elim t as (λ t. Entry) [ true ↦ went k x pre eff (sum + x.cost) (apply eff s) | false ↦ stuck k x pre s ]) h)

-- ---- the entries of a list

module _ (names : List Named) (pre eff : ℕ → Partial) where
  module _ (k sum : ℕ) (list s : List ℕ) where
    -- those from one of these steps on, if there is one, and after it by whether it applies
    abbrev pub after : Named → Bool → List Entry
    after x t = elim t [ true ↦ entries names pre eff (sum + x.cost) list (apply (eff k) s) | false ↦ [] ]

    abbrev pub from : Option Named → List Entry
    from o = elim o [ None ↦ [] | Some x ↦ entry k x (pre k) (eff k) sum s ∷ after x (holds (pre k) s) ]

    none_here : {l : ℕ} → seek names k ≡ past l → entries names pre eff sum (k ∷ list) s ≡ []
    none_here h = ap from (look_past names k h)

    one_here : {x : Named} {t : Bool} → seek names k ≡ sought x → holds (pre k) s ≡ t → entries names pre eff sum (k ∷ list) s ≡ entry k x (pre k) (eff k) sum s ∷ after x t
    one_here {x} h e = ap from (look_found names k h) ∙ ap (λ (t : Bool). entry k x (pre k) (eff k) sum s ∷ after x t) e

-- Preconditions and effects that agree on the steps that there are.
pub entries_same : (names : List Named) (pre eff pre' eff' : ℕ → Partial) → ((k : ℕ) → k < length names → (pre k ≡ pre' k) × (eff k ≡ eff' k)) → (list s : List ℕ) (sum : ℕ)
    → entries names pre eff sum list s ≡ entries names pre' eff' sum list s
entries_same names pre eff pre' eff' same [] s sum = refl
entries_same names pre eff pre' eff' same (k ∷ list) s sum = go (slice_get names k) refl (λ x. entries_same names pre eff pre' eff' same list (apply (eff k) s) (sum + x.cost))
  where
    go : (o : Option Named) → slice_get names k ≡ o → ((x : Named) → entries names pre eff (sum + x.cost) list (apply (eff k) s) ≡ entries names pre' eff' (sum + x.cost) list (apply (eff k) s))
        → from names pre eff k sum list s o ≡ from names pre' eff' k sum list s o
    go None h on = refl
    go (Some x) h on =
        let e = same k (at_length (found names k h)) in
        ap (λ (after : List Entry). entry k x (pre k) (eff k) sum s ∷ elim (holds (pre k) s) [ true ↦ after | false ↦ [] ]) (on x)
        ∙ ap₂ (λ (p q : Partial). entry k x p q sum s ∷ elim (holds p s) [ true ↦ entries names pre' eff' (sum + x.cost) list (apply q s) | false ↦ [] ]) e.0 e.1

-- ---- the entries of a list in place

-- the steps stand at these offsets of the probe file f
module _ (names : List Named) (f offsets : List ℕ) where
  -- those of a list from the state s on, with the sum before it
  abbrev pub entries_in : ℕ → List ℕ → List ℕ → List Entry
  entries_in sum list s = entries names (pre_at f offsets) (eff_at f offsets) sum list s

  -- the entries before index i are written, `sum` is paid and the state is s
  pub record Left (states : Bool) (list whole : List ℕ) (before now : Writer) (i sum : ℕ) (s : List ℕ) : Type 0 where
    pub adding : Adding whole (entries_text states (entries_in sum (drop i list) s)) before now

  -- At first none is written.
  pub left_start : (states : Bool) (list s : List ℕ) (out : Writer) → Left states list (entries_text states (entries_in 0 list s)) out out 0 0 s
  left_start states list s out = record { adding = adding_start (entries_text states (entries_in 0 list s)) out }

  module _ {states : Bool} {list whole s : List ℕ} {before now : Writer} {i sum : ℕ} (g : Left states list whole before now i sum s) where
    -- the entry at index i, and those after it
    cut : i < length list → {es : List Entry} → entries_in sum (get_or list i 0 ∷ drop (suc i) list) s ≡ es → entries_text states (entries_in sum (drop i list) s) ≡ entries_text states es
    cut l e = ap (λ (xs : List ℕ). entries_text states (entries_in sum xs s)) (drop-cons list i 0 l) ∙ ap (entries_text states) e

    -- There is no step of the number at index i.
    pub left_past : {l : ℕ} → i < length list → seek names (get_or list i 0) ≡ past l → Appends whole before now
    left_past l h = adding_end g.adding (cut l (none_here names (pre_at f offsets) (eff_at f offsets) (get_or list i 0) sum (drop (suc i) list) s h))

    -- There is one, which is written.
    module _ {x : Named} {last : Writer} {after : List ℕ} {place : ℕ} {paid : Option ℕ} (l : i < length list) (h : seek names (get_or list i 0) ≡ sought x) (o : place ≡ get_or offsets (get_or list i 0) 0)
        (v : Entered states (get_or list i 0) x f place sum s now last paid after) where
      abbrev k : ℕ
      k = get_or list i 0

      abbrev here : Entry
      here = entry k x (pre_at f offsets k) (eff_at f offsets k) sum s

      written : Appends (entry_text states here) now last
      written = subst (λ (place : ℕ). Appends (entry_text states (entry k x (partial_at f place) (partial_at f (past_partial f place)) sum s)) now last) o v.text

      applied : {t : Bool} → is_some paid ≡ t → holds (pre_at f offsets k) s ≡ t
      applied e = ap (λ (place : ℕ). holds (partial_at f place) s) (sym o) ∙ sym v.applies ∙ e

      after_is : is_some paid ≡ true → after ≡ apply (eff_at f offsets k) s
      after_is e = v.state ∙ ap (λ (place : ℕ). advanced (partial_at f place) (partial_at f (past_partial f place)) s) o ∙ advanced_on (pre_at f offsets k) (eff_at f offsets k) s (applied e)

      -- It does not apply: no other is written.
      pub left_stuck : paid ≡ None → Appends whole before last
      left_stuck e =
          adding_end (adding_more (entry_text states here) [] g.adding (cut l (one_here names (pre_at f offsets) (eff_at f offsets) k sum (drop (suc i) list) s h (applied (ap is_some e)))) written) refl

      -- It applies: those after it are left.
      pub left_went : {total : ℕ} → paid ≡ Some total → Left states list whole before last (i + 1) total after
      left_went {total} e =
          let sums : total ≡ sum + x.cost = subst (λ (r : Option ℕ). IfSome r (λ total. total ≡ sum + x.cost)) e v.sums in
          let next : entries_in sum (k ∷ drop (suc i) list) s ≡ here ∷ entries_in total (drop (i + 1) list) after =
          one_here names (pre_at f offsets) (eff_at f offsets) k sum (drop (suc i) list) s h (applied (ap is_some e)) ∙ rw (sums, after_is (ap is_some e), add-one i) in
          record { adding = adding_more (entry_text states here) (entries_text states (entries_in total (drop (i + 1) list) after)) g.adding (cut l next) written }

    -- At last all are written.
    pub left_end : length list ≤ i → Appends whole before now
    left_end l = adding_end g.adding (ap (λ (xs : List ℕ). entries_text states (entries_in sum xs s)) (drop_of_length-le list {i = i} l))

  -- The initial state, and then the entries.
  pub trace_parts : (states : Bool) (list s : List ℕ) {before now last : Writer} → Appends (state_text states (bytes "initial state:") s) before now
      → Appends (entries_text states (entries_in 0 list s)) now last → Appends (trace_text states names (pre_at f offsets) (eff_at f offsets) list s) before last
  unfolding trace_text
  trace_parts states list s v w = appends_then v w
