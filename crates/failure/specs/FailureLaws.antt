-- Laws of why a list is no plan: a run that is refused by 9 or 10 comes to its end there.
use Rattle.std.specs.Prelude.{ℕ, zero, suc, ◌+◌, ◌≤◌, ◌<◌, ◌≡◌, refl, Bool, true, false, List, [], ◌∷◌, ◌++◌, ltb, length, get_or, drop}
use Rattle.std.proofs.Common.{sym, ap, ◌∙◌, drop_of_length-le, drop-cons, eq-eqb, ne_eqb, lt-ltb, le-ltb, ltb-true}
use Rattle.std.proofs.Math.Numerals.{add-one}
use Rattle.facts.specs.Read.{Read, accepted, refused, check, ◌>>=◌}
use Rattle.facts.specs.ReadLaws.{agree, checked}
use Rattle.facts.specs.Partial.{Partial, holds, apply, empty, standing_at, partial_at}
use Rattle.facts.specs.Fields.{read_number}
use Rattle.facts.specs.InPlaceLaws.{standing_read, empty_read}
use Rattle.text.specs.Text.{decimal}
use Rattle.text.specs.Append.{bytes}
use Rattle.words.specs.Words.{bits_text}
use Rattle.words.specs.WordLaws.{Bitwise}
use Rattle.failure.specs.Failure.{unlike_text, failed_text, failures_text, Halt, stopped, ended, onward, halt_from, halt_text}
use Rattle.failure.specs.InPlace.{advanced, halt_in, failure_in}

-- ---- the ways in which a turn can go: entry number i of a list

module _ (count : ℕ) (pre eff : ℕ → Partial) where
  module _ (list s : List ℕ) (i : ℕ) (l : i < length list) where
    abbrev entry : ℕ
    entry = get_or list i 0

    turn : halt_from count pre eff i (drop i list) s
        ≡ ◌>>=◌ (check (ltb entry count) 11 i) (λ u. onward (holds (pre entry) s) (stopped i entry (pre entry) s) (λ u. halt_from count pre eff (i + 1) (drop (i + 1) list) (apply (eff entry) s)))
    unfolding halt_from
    turn = rw (drop-cons list i 0 l, add-one i)

    pub halt_missing : count ≤ entry → halt_from count pre eff i (drop i list) s ≡ refused 11 i
    halt_missing h = turn ∙ rw (le-ltb entry count h)

    pub halt_stopped : entry < count → holds (pre entry) s ≡ false → halt_from count pre eff i (drop i list) s ≡ accepted (stopped i entry (pre entry) s)
    halt_stopped h e = turn ∙ rw (lt-ltb entry count h, e)

    pub halt_next : entry < count → holds (pre entry) s ≡ true → halt_from count pre eff i (drop i list) s ≡ halt_from count pre eff (i + 1) (drop (i + 1) list) (apply (eff entry) s)
    halt_next h e = turn ∙ rw (lt-ltb entry count h, e)

  pub halt_ended : (list s : List ℕ) (i : ℕ) → length list ≤ i → halt_from count pre eff i (drop i list) s ≡ accepted (ended s)
  unfolding halt_from
  halt_ended list s i l = rw (drop_of_length-le list l)

-- ---- preconditions and effects that agree on the numbers that there are

onward_same : (t : Bool) (here : Halt) (k k' : Unit {0} → Read Halt) → k tt ≡ k' tt → onward t here k ≡ onward t here k'
onward_same true here k k' e = e
onward_same false here k k' e = refl

pub halt_same : (count : ℕ) (pre eff pre' eff' : ℕ → Partial) → ((a : ℕ) → a < count → (pre a ≡ pre' a) × (eff a ≡ eff' a))
    → (list s : List ℕ) (i : ℕ) → halt_from count pre eff i list s ≡ halt_from count pre' eff' i list s
unfolding halt_from
halt_same count pre eff pre' eff' same [] s i = refl
halt_same count pre eff pre' eff' same (a ∷ list) s i =
    agree (check (ltb a count) 11 i) _ _ (λ u h.
    let e = same a (ltb-true a count (checked (ltb a count) 11 i h)) in
    rw (← e.0, ← e.1) (onward_same (holds (pre a) s) (stopped i a (pre a) s) _ _ (halt_same count pre eff pre' eff' same list (apply (eff a) s) (suc i))))

-- ---- facts that fail

-- A fact that holds, and one that does not.
pub unlike_same : (v d x : ℕ) → d ≡ x → [] ≡ unlike_text v d x
unlike_same v d x e = rw (eq-eqb d x e, unlike_text)

pub unlike_other : (v d x : ℕ) → (d ≡ x → ⊥)
    → bytes "  " ++ (decimal v ++ (bytes "=" ++ (decimal d ++ (bytes ", but variable " ++ (decimal v ++ (bytes " is " ++ (decimal x ++ bytes "\n"))))))) ≡ unlike_text v d x
unlike_other v d x e = rw (ne_eqb d x e, unlike_text)

-- There is no value for a bit; or it stands, and there is one.
pub failed_cut : (f : List ℕ) (x v b at : ℕ) → length f ≤ at → [] ≡ failed_text x v b (drop at f)
failed_cut f x v zero at l = refl
failed_cut f x v (suc b) at l = rw (drop_of_length-le f {i = at} l)

pub failed_fact : (f : List ℕ) (x v b at : ℕ) → (b ≡ 0 → ⊥) → at < length f → unlike_text v (get_or f at 0) x ≡ failed_text x v b (drop at f)
failed_fact f x v zero at h l = absurd (h refl)
failed_fact f x v (suc b) at h l = rw (drop-cons f at 0 l)

pub failed_bitwise : (s : List ℕ) → Bitwise (λ v. failed_text (get_or s v 0) v)
failed_bitwise s = record { none = λ v values. refl; first = λ v d xs ys. refl }

-- The facts of a partial state in place; there are none where the file ends inside its map.
none_fail : (s : List ℕ) (n v : ℕ) → [] ≡ bits_text (λ v. failed_text (get_or s v 0) v) n v empty
none_fail s zero v = refl
none_fail s (suc n) v = none_fail s n (suc v)

module _ (f : List ℕ) (at : ℕ) (s : List ℕ) where
  pub failures_cut : {k p : ℕ} → read_number f 8 at ≡ refused k p → [] ≡ failures_text (partial_at f at) s
  failures_cut h = none_fail s (length s) 0 ∙ ap (λ (p : Partial). failures_text p s) (sym (empty_read f at h))

  pub failures_here : {map : ℕ} → read_number f 8 at ≡ accepted map → failures_text (standing_at f map (at + 8)) s ≡ failures_text (partial_at f at) s
  failures_here h = ap (λ (p : Partial). failures_text p s) (sym (standing_read f at h))

-- ---- the state after an entry

pub advanced_on : (pre eff : Partial) (s : List ℕ) → holds pre s ≡ true → advanced pre eff s ≡ apply eff s
unfolding advanced
advanced_on pre eff s h = rw (h, advanced)

pub advanced_not : (pre eff : Partial) (s : List ℕ) → holds pre s ≡ false → advanced pre eff s ≡ s
unfolding advanced
advanced_not pre eff s h = rw (h, advanced)

-- ---- why a list is no plan, in place

module _ (f label offsets : List ℕ) (goal : ℕ) (list s : List ℕ) where
  pub failure_missing : {n p : ℕ} → halt_in f offsets 0 list s ≡ refused n p → failure_in f label offsets goal list s ≡ refused n p
  unfolding failure_in
  failure_missing h = rw h

  pub failure_at : {h : Halt} → halt_in f offsets 0 list s ≡ accepted h → failure_in f label offsets goal list s ≡ accepted (halt_text label (partial_at f goal) h)
  unfolding failure_in
  failure_at h = rw h
