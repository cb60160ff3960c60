-- Rows 4 and 7 to 12 of document 01's table, for the operations that give them: conditions, and the laws of files and buffers. Those of lists are in proofs/OperationRows.antt.
use Rattle.std.specs.Prelude.{◌≡◌, refl, ◌↔◌, ◌⊎◌, ℕ, ◌≤◌, ◌<◌, Bool, true, false, List, leb, length}
use Rattle.std.proofs.Math.Path.{sym}
use Rattle.std.proofs.Common.{ap, subst, ◌∙◌}
use Rattle.std.proofs.Math.Logic.{inl, inr}
use borrow.Author.Tests.{leb-false, lt-leb}
use Rattle.facts.specs.Read.{Read, accepted, refused, check, with_value, ◌>>=◌}
use Rattle.facts.specs.ReadLaws.{made, not_made}
use Rattle.facts.specs.Write.{length_in}
use Rattle.facts.specs.Lists.{At}
use Rattle.facts.specs.ListLaws.{look}
use Rattle.facts.specs.Partial.{Partial, holds}
use Rattle.facts.specs.Run.{blocked, attempt}
use Rattle.facts.specs.RunLaws.{attempt_next, attempt_blocked, not_blocked}
use Rattle.taskfile.specs.Task.{Action, Task, cost, action_move}
use Rattle.taskfile.specs.TaskFile.{read_task}
use Rattle.probefile.specs.Probe.{Step, Probe, step_move, ProbePlan}
use Rattle.probefile.specs.ProbeFile.{write_probe}
use Rattle.compilation.specs.Compile.{probe_of}
use Rattle.compilation.specs.CompileFile.{probe_file_of, compile_file}
use Rattle.carry.specs.CarryFile.{list_of, answer_in}
use Rattle.carry.specs.SameSumLaws.{answer_length}
use Rattle.cases.specs.SiteLaws.{first, after, stops, stopped, passed, failed, unmade}
use Rattle.cases.specs.StartRows.{Over}
use Rattle.cases.specs.ListRows.{System}

-- ---- after the file

-- The file is refused; or it is accepted as x, and refusal n at p is due for x.
pub data Given {X : Type 0} (file : Read X) (due : X → Type 0) (n p : ℕ) : Type 0 where
  of_file : file ≡ refused n p → Given file due n p
  of_rest : (x : X) → file ≡ accepted x → due x → Given file due n p

-- an operation that begins with a file
pub given : {X Y : Type 0} (file : Read X) (k : X → Read Y) (due : X → Type 0) (n p : ℕ) → ((x : X) → (k x ≡ refused n p) ↔ due x) → (◌>>=◌ file k ≡ refused n p) ↔ Given file due n p
given file k due n p h = (
  λ e. elim (stops file e) [ first g ↦ of_file g | after x a g ↦ of_rest x a ((h x).0 g) ],
  λ g. elim g [ of_file e ↦ stopped k e | of_rest x a d ↦ passed k a ((h x).1 d) ],
)

-- what follows from each of the two
pub by_given : {X : Type 0} {file : Read X} {due : X → Type 0} {n p : ℕ} {A : Type 0} → (file ≡ refused n p → A) → ((x : X) → due x → A) → Given file due n p → A
by_given of-that of-this (of_file e) = of-that e
by_given of-that of-this (of_rest x a d) = of-this x d

-- a refusal that the file can have, in other words
pub either : {X Y : Type 0} {m : Read Y} {file : Read X} {due condition : X → Type 0} {n p : ℕ} → ((x : X) → due x ↔ condition x)
    → (m ≡ refused n p) ↔ Given file due n p → (m ≡ refused n p) ↔ ((file ≡ refused n p) ⊎ ((x : X) × (file ≡ accepted x) × condition x))
either same row = (
  λ h. elim (row.0 h) [ of_file e ↦ inl e | of_rest x a d ↦ inr (x, a, (same x).0 d) ],
  λ c. elim c [ inl e ↦ row.1 (of_file e) | inr o ↦ row.1 (of_rest o.0 o.1 ((same o.0).1 o.2)) ],
)

-- one that the file cannot have
pub after_file : {X Y : Type 0} {m : Read Y} {file : Read X} {due condition : X → Type 0} {n p : ℕ} → (file ≡ refused n p → ⊥) → ((x : X) → due x ↔ condition x)
    → (m ≡ refused n p) ↔ Given file due n p → (m ≡ refused n p) ↔ ((x : X) × (file ≡ accepted x) × condition x)
after_file never same row = let both = either same row in (λ h. elim (both.0 h) [ inl e ↦ absurd (never e) | inr o ↦ o ], λ c. both.1 (inr c))

-- one that only the file can have
pub file_alone : {X Y : Type 0} {m : Read Y} {file : Read X} {due : X → Type 0} {n p : ℕ} → ((x : X) → due x → ⊥) → (m ≡ refused n p) ↔ Given file due n p → (m ≡ refused n p) ↔ (file ≡ refused n p)
file_alone never row = (λ h. elim (row.0 h) [ of_file e ↦ e | of_rest x a d ↦ absurd (never x d) ], λ e. row.1 (of_file e))

-- what is refused of something made of a value is refused of the value
pub of_value : {X Y Z : Type 0} (g : X → Y) (file : Read X) {m : Read Z} {due : Y → Type 0} {n p : ℕ} → (m ≡ refused n p) ↔ Given (with_value g file) due n p
    → (m ≡ refused n p) ↔ Given file (λ x. due (g x)) n p
of_value g file {due = due} row = (
  λ h. elim (row.0 h) [
    | of_file e ↦ of_file (not_made g file e)
    | of_rest y a d ↦ let v = made g file a in of_rest v.from v.answer (subst due (sym v.value) d)
  ],
  λ c. elim c [ of_file e ↦ row.1 (of_file (rw e)) | of_rest x a d ↦ row.1 (of_rest (g x) (rw a) d) ],
)

-- ---- a buffer that is too short

-- 7: there is room for fewer than the length needed, which is the place.
abbrev pub Short : ℕ → ℕ → ℕ → ℕ → Type 0
Short room needed n p = (n ≡ 7) × (room < needed) × (p ≡ needed)

-- with a buffer: what is refused without one, and then 7
pub length_room : (room : ℕ) (result : Read (List ℕ)) (n p : ℕ) → (length_in room result ≡ refused n p) ↔ Given result (λ list. Short room (length list) n p) n p
unfolding length_in
length_room room result n p = given result _ _ n p (λ list. short (length list))
  where
    short : (needed : ℕ) → (◌>>=◌ (check (leb needed room) 7 needed) (λ u. accepted needed) ≡ refused n p) ↔ Short room needed n p
    short needed = (
      λ h.
          let q = failed (leb needed room) 7 needed (unmade (check (leb needed room) 7 needed) _ h) in
          (q.1, leb-false needed room q.0, q.2),
      λ c. rw (lt-leb needed room c.1, c.0, c.2),
    )

pub compile_room : (f : List ℕ) (room n p : ℕ) → (compile_file f room ≡ refused n p) ↔ Given (read_task f) (λ t. Short room (length (write_probe (probe_of t))) n p) n p
unfolding probe_file_of
compile_room f room n p = of_value (λ (t : Task). write_probe (probe_of t)) (read_task f) (length_room room (probe_file_of f) n p)

pub answer_room : (room : ℕ) (carried : Read (List ℕ × ℕ)) (n p : ℕ) → (answer_in room carried ≡ refused n p) ↔ Given carried (λ c. Short room (length c.0) n p) n p
answer_room room carried n p =
    let alone : Read (ℕ × ℕ) → Read ℕ = with_value (λ (c : ℕ × ℕ). c.0) in
    let row = of_value (λ (c : List ℕ × ℕ). c.0) carried (length_room room (list_of carried) n p) in
    (λ h. row.0 (sym (answer_length room carried) ∙ ap alone h), λ g. not_made (λ (c : ℕ × ℕ). c.0) (answer_in room carried) (answer_length room carried ∙ row.1 g))

-- ---- lists

-- a task and a probe file as what a list is run on
abbrev pub task_system : Task → System
task_system t = record { count = length t.actions; move = action_move t.actions; goal = t.goal; init = t.init }

abbrev pub probe_system : Probe → System
probe_system p = record { count = length p.steps; move = step_move p.steps; goal = p.goal; init = p.init }

-- what 9 means: an action or a step does not apply exactly where its precondition does not hold
attempt_row : (pre eff : Partial) (c : ℕ) (s : List ℕ) → (attempt pre eff c s ≡ blocked) ↔ (holds pre s ≡ false)
attempt_row pre eff c s = (go (holds pre s) refl, attempt_blocked pre eff c s)
  where
    go : (b : Bool) → holds pre s ≡ b → attempt pre eff c s ≡ blocked → holds pre s ≡ false
    go true g h = absurd (not_blocked (sym h ∙ attempt_next pre eff c s g))
    go false g h = g

pub action_blocked : {actions : List Action} {a : ℕ} {x : Action} → At actions a x → (s : List ℕ) → (action_move actions a s ≡ blocked) ↔ (holds x.pre s ≡ false)
unfolding action_move
action_blocked {x = x} h s = rw (look h, action_move) (attempt_row x.pre x.eff (cost x s) s)

pub step_blocked : {steps : List Step} {r : ℕ} {st : Step} → At steps r st → (s : List ℕ) → (step_move steps r s ≡ blocked) ↔ (holds st.pre s ≡ false)
unfolding step_move
step_blocked {st = st} h s = rw (look h, step_move) (attempt_row st.pre st.eff st.cost s)

module _ (f list : List ℕ) (n p : ℕ) where
  -- more than 256 actions would come out of a list that is within its own limit, and a plan
  abbrev pub Overfull : Task → Type 0
  Overfull t = (n ≡ 8) × (length list ≤ 6656) × (sum : ℕ) × ProbePlan (probe_of t) list sum × Over t.actions 256 list p
