-- Rows 1 to 6 of document 01's table, for any reader of a file whose refusals are those due at its sites: conditions, and the law of each row.
use Rattle.std.specs.Prelude.{◌≡◌, refl, ◌↔◌, ◌⊎◌, ℕ, ◌+◌, ◌≤◌, ◌<◌, true, false, List, length}
use Rattle.std.proofs.Common.{sym, ap, ◌∙◌, inl, inr, arith}
use Rattle.facts.specs.Read.{Read, accepted, refused}
use Rattle.facts.specs.Bytes.{number_at}
use Rattle.facts.specs.Fields.{read_count, read_value, read_map, read_weight}
use Rattle.facts.specs.Fields.{field as readField}
use Rattle.facts.specs.FieldLaws.{number_reads, field_good, taken}
use Rattle.taskfile.specs.TaskFile.{read_variable, read_target}
use Rattle.probefile.specs.ProbeFile.{read_step_count}
use Rattle.cases.specs.Sites.{Kind, count, value, map, weight, steps, variable, target, bytes, good, wrong, Site, field, falling, end, Due, cut, bad, falls, goes_on, Sites}
use Rattle.cases.specs.SiteLaws.{Faults}

-- The file f ends before or inside the field at p.
abbrev pub Ends : List ℕ → Sites → ℕ → Type 0
Ends f come p = (kind : Kind) × come (field kind) p × (length f < p + bytes kind)

-- The last field ends at p, and the file f does not.
abbrev pub Trailing : List ℕ → Sites → ℕ → Type 0
Trailing f come p = come end p × (p < length f)

-- The field at p, of a kind with the refusal n, is inside the file f, and its number is not good.
abbrev pub Wrong : List ℕ → Sites → ℕ → ℕ → Type 0
Wrong f come n p = (kind : Kind) × come (field kind) p × (wrong kind ≡ n) × (p + bytes kind ≤ length f) × (good kind (number_at (bytes kind) f p) ≡ false)

-- the refusals of a field's number
wrong_range : (kind : Kind) → (3 ≤ wrong kind) × (wrong kind ≤ 6)
wrong_range (count low high) = (omega arith, omega arith)
wrong_range (value d) = (omega arith, omega arith)
wrong_range (map n) = (omega arith, omega arith)
wrong_range weight = (omega arith, omega arith)
wrong_range steps = (omega arith, omega arith)
wrong_range (variable n) = (omega arith, omega arith)
wrong_range (target m i) = (omega arith, omega arith)

-- ---- what is due, by its number

module _ {f : List ℕ} (come : Sites) {n p : ℕ} where
  by_number : {site : Site} → come site p → Due f n p site → (n ≡ 1 → Ends f come p) × (n ≡ 2 → Trailing f come p) × (3 ≤ n → Wrong f come n p ⊎ ((n ≡ 6) × come falling p))
  by_number c (cut {kind = kind} q l) = (λ z. (kind, c, l), λ z. absurd (omega arith), λ z. absurd (omega arith))
  by_number c (bad {kind = kind} q l g) = let r = wrong_range kind in (λ z. absurd (omega arith), λ z. absurd (omega arith), λ z. inl (kind, c, sym q, l, g))
  by_number c (falls q) = (λ z. absurd (omega arith), λ z. absurd (omega arith), λ z. inr (q, c))
  by_number c (goes_on q l) = (λ z. absurd (omega arith), λ z. (c, l), λ z. absurd (omega arith))

  number_due : {site : Site} → Due f n p site → (1 ≤ n) × (n ≤ 6)
  number_due (cut q l) = (omega arith, omega arith)
  number_due (bad {kind = kind} q l g) = (omega (arith, wrong_range kind), omega (arith, wrong_range kind))
  number_due (falls q) = (omega arith, omega arith)
  number_due (goes_on q l) = (omega arith, omega arith)

-- ---- the rows

module _ {X : Type 0} {f : List ℕ} {m : Read X} {come : Sites} (faults : Faults f m come) where
  pub ends_row : (p : ℕ) → (m ≡ refused 1 p) ↔ Ends f come p
  ends_row p = (λ h. let e = faults.found h in (by_number come e.there e.due).0 refl, λ c. faults.answers c.1 (cut refl c.2))

  pub trailing_row : (p : ℕ) → (m ≡ refused 2 p) ↔ Trailing f come p
  trailing_row p = (λ h. let e = faults.found h in (by_number come e.there e.due).1 refl, λ c. faults.answers c.0 (goes_on refl c.1))

  wrong_answers : {n p : ℕ} → Wrong f come n p → m ≡ refused n p
  wrong_answers c = faults.answers c.1 (bad (sym c.2) c.3 c.4)

  -- 3, 4 and 5
  pub wrong_row : (n p : ℕ) → 3 ≤ n → n ≤ 5 → (m ≡ refused n p) ↔ Wrong f come n p
  wrong_row n p l u = (λ h. let e = faults.found h in elim ((by_number come e.there e.due).2 l) [ inl c ↦ c | inr q ↦ absurd (omega arith) ], wrong_answers)

  pub rules_row : (p : ℕ) → (m ≡ refused 6 p) ↔ (Wrong f come 6 p ⊎ come falling p)
  rules_row p = (
    λ h. let e = faults.found h in elim ((by_number come e.there e.due).2 (omega arith)) [ inl c ↦ inl c | inr q ↦ inr q.1 ],
    λ c. elim c [ inl w ↦ wrong_answers w | inr s ↦ faults.answers s (falls refl) ],
  )

  -- no other number is given
  pub file_numbers : {n p : ℕ} → m ≡ refused n p → (1 ≤ n) × (n ≤ 6)
  file_numbers h = number_due come (faults.found h).due

-- ---- an accepted field

-- the reader of a kind of field
abbrev pub read_kind : List ℕ → Kind → ℕ → Read (ℕ × ℕ)
read_kind f kind at = readField f (bytes kind) (good kind) (wrong kind) at

module _ (f : List ℕ) (kind : Kind) (at : ℕ) where
  -- The field is inside the file f, x is the number of its bytes and is good, and the next field begins right after it.
  pub record Accepted (x next : ℕ) : Type 0 where
    pub fits : at + bytes kind ≤ length f
    pub value : number_at (bytes kind) f at ≡ x
    pub passes : good kind x ≡ true
    pub follows : next ≡ at + bytes kind

  pub accepted_field : (x next : ℕ) → (read_kind f kind at ≡ accepted (x, next)) ↔ Accepted x next
  accepted_field x next = (
    λ h. let t = taken f (bytes kind) (good kind) (wrong kind) at h in record { fits = t.number.fits; value = t.number.value; passes = t.passes; follows = t.next },
    λ a. rw a.follows (field_good f (bytes kind) (good kind) (wrong kind) at (number_reads f (bytes kind) at a.fits ∙ ap accepted a.value) a.passes),
  )

-- every reader of one field is that of its kind
pub readers : (f : List ℕ) (a b at : ℕ)
    → (read_count f a b at ≡ read_kind f (count a b) at) × (read_value f a at ≡ read_kind f (value a) at) × (read_map f a at ≡ read_kind f (map a) at) × (read_weight f at ≡ read_kind f weight at)
    × (read_step_count f at ≡ read_kind f steps at) × (read_variable f a at ≡ read_kind f (variable a) at) × (read_target f a b at ≡ read_kind f (target a b) at)
unfolding read_count read_value read_map read_weight read_step_count read_variable read_target
readers f a b at = (refl, refl, refl, refl, refl, refl, refl)
