-- Laws of the blank task: only the empty file has it, no other task is without actions, and where code finds it.
use Rattle.std.specs.Prelude.{◌≡◌, refl, ◌⊎◌, ℕ, ◌≤◌, ◌<◌, Bool, true, false, List, [], ◌∷◌, eqb, length}
use Rattle.std.proofs.Common.{sym, ap, ap₂, ◌∙◌, inl, inr, arith, eqb-true}
use Rattle.std.proofs.Math.Bool.{and-eq-true_iff}
use Rattle.std.proofs.lemmas.Bool.{false≢true}
use Rattle.facts.specs.Read.{accepted, refused}
use Rattle.facts.specs.ReadLaws.{not_refused}
use Rattle.facts.specs.Bytes.{Bytes, number_at}
use Rattle.facts.specs.Fields.{read_number, field, read_count, read_value, read_map, read_values, read_partial, read_sizes, read_head}
use Rattle.taskfile.specs.Task.{Task}
use Rattle.taskfile.specs.TaskFile.{read_bytes, blank, read_task}
use Rattle.taskfile.specs.Blank.{blank_head, or_else, same_bytes, file_of}
use Rattle.taskfile.specs.TaskReadLaws.{some_action}

-- ---- the reader

-- an empty file is the blank task
pub blank_read : read_task [] ≡ accepted blank
unfolding read_task
blank_read = refl

-- for every other file the reader is what it was
pub others_read : (f : List ℕ) → 1 ≤ length f → read_task f ≡ read_bytes f
unfolding read_task
others_read [] some = absurd (omega (arith, some))
others_read (byte ∷ rest) some = refl

-- nothing else with zero actions is legal
pub no_actions : (f : List ℕ) {t : Task} → read_task f ≡ accepted t → t.actions ≡ [] → f ≡ []
unfolding read_task
no_actions [] h none = refl
no_actions (byte ∷ rest) h none = let some = some_action (byte ∷ rest) h in let zero = ap length none in absurd (omega (arith, some, zero))

-- ---- the bytes in which code finds a task

-- as code tells them
pub own_bytes : (f bytes : List ℕ) → 0 < length f → f ≡ or_else f bytes
own_bytes [] bytes some = absurd (omega (arith, some))
own_bytes (byte ∷ rest) bytes some = refl

pub in_place_of : (f bytes : List ℕ) → length f ≤ 0 → bytes ≡ or_else f bytes
in_place_of [] bytes none = refl
in_place_of (byte ∷ rest) bytes none = absurd (omega (arith, none))

same_bytes_lem : (xs ys : List ℕ) → same_bytes xs ys ≡ true → xs ≡ ys
same_bytes_lem [] [] h = refl
same_bytes_lem [] (y ∷ ys) h = absurd (false≢true h)
same_bytes_lem (x ∷ xs) [] h = absurd (false≢true h)
same_bytes_lem (x ∷ xs) (y ∷ ys) h = let both = (and-eq-true_iff (eqb x y) (same_bytes xs ys)).0 h in ap₂ (λ (z : ℕ) (zs : List ℕ). z ∷ zs) (eqb-true x y both.0) (same_bytes_lem xs ys both.1)

-- the task is read of these bytes, or they are the head of the blank task
pub stands : (f : List ℕ) {t : Task} → read_task (file_of f) ≡ accepted t → (read_bytes f ≡ accepted t) ⊎ ((blank ≡ t) × (1 ≤ length f → f ≡ blank_head))
unfolding file_of read_task
stands f {t} h = go f (same_bytes f blank_head) refl h
  where
    go : (f : List ℕ) (same : Bool) → same_bytes f blank_head ≡ same → read_task (elim same as (λ same. List ℕ) [ true ↦ [] | false ↦ f ]) ≡ accepted t → (read_bytes f ≡ accepted t) ⊎ ((blank ≡ t) × (1 ≤ length f → f ≡ blank_head))
    go f true e h = inr (cc h, λ l. same_bytes_lem f blank_head e)
    go [] false e h = inr (cc h, λ l. absurd (omega (arith, l)))
    go (byte ∷ rest) false e h = inl h

-- code's bytes stand for a file of bytes
pub file_bytes : (f : List ℕ) → Bytes f → Bytes (file_of f)
unfolding file_of
file_bytes f bytes = go (same_bytes f blank_head)
  where
    go : (same : Bool) → Bytes (elim same as (λ same. List ℕ) [ true ↦ [] | false ↦ f ])
    go true = tt
    go false = bytes

-- a file that has this head alone ends too early
head_alone : read_task blank_head ≡ refused 1 11
unfolding number_at read_number field read_count read_value read_map read_values read_partial read_sizes read_head read_bytes read_task
head_alone = refl

-- for an accepted file code finds its task in its bytes, and in those of the blank task for the empty one
pub file_is : (f : List ℕ) {t : Task} → read_task f ≡ accepted t → file_of (or_else f blank_head) ≡ f
unfolding file_of
file_is [] h = refl
file_is (byte ∷ rest) {t} h = go (same_bytes (byte ∷ rest) blank_head) refl
  where
    go : (same : Bool) → same_bytes (byte ∷ rest) blank_head ≡ same → elim same as (λ same. List ℕ) [ true ↦ [] | false ↦ byte ∷ rest ] ≡ byte ∷ rest
    go true e = absurd (not_refused (sym head_alone ∙ sym (ap read_task (same_bytes_lem (byte ∷ rest) blank_head e)) ∙ h))
    go false e = refl
