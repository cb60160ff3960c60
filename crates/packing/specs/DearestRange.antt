-- When a dearest state is refused, with which numbers, and how large its answer can be, for every file, action number and buffer.
use Rattle.std.specs.Prelude.{◌≡◌, refl, ◌↔◌, ◌⊎◌, List, length}
use Rattle.std.proofs.Math.Path.{sym, ap, ap₂}
use Rattle.std.proofs.Common.{◌∙◌, arith}
use Rattle.std.proofs.Math.Logic.{inl, inr}
use Prim.Native.Nat.{ℕ, suc, ◌≤◌}
use Rattle.facts.specs.Read.{Read, accepted, refused, ◌>>=◌}
use Rattle.facts.specs.Bytes.{Bytes}
use Rattle.taskfile.specs.Task.{Action, Task, max_variables, max_bytes, max_cost}
use Rattle.taskfile.specs.TaskFile.{read_task}
use Rattle.taskfile.proofs.TaskReadLaws.{task_limits}
use Rattle.probefile.specs.Probe.{max_list as maxProbeList}
use Rattle.carry.specs.CarryFile.{answer_in}
use Rattle.dearest.specs.Dearest.{dearest_state, greatest_cost, dearest_of}
use Rattle.dearest.proofs.FileLaws.{dearest_given, dearest_most}
use Rattle.cases.specs.SiteLaws.{not_accepted}
use Rattle.cases.proofs.TaskSiteLaws.{task_faults}
use Rattle.cases.specs.FileRows.{file_numbers}
use Rattle.cases.specs.PlaceLaws.{Within, value, place, Placed, task_places}
use Rattle.cases.specs.OperationRows.{Given, given, by_given, answer_room}
use Rattle.cases.specs.StateRows.{action_at_lem}
use Rattle.cases.specs.Numbers.{OfCosts}
use Rattle.cases.specs.Ranges.{Carried, Written, answer_range}

module _ (f : List ℕ) (a : ℕ) where
  -- the number is that of no action, by 11 at 0
  abbrev pub NoAction : Task → ℕ → ℕ → Type 0
  NoAction t n p = (length t.actions ≤ a) × (n ≡ 11) × (p ≡ 0)

  -- Given exactly if: the file's refusals, and then 11. With a buffer 7 comes after them, by `answer_room`.
  pub dearest_row : (n p : ℕ) → (dearest_of f a ≡ refused n p) ↔ Given (read_task f) (λ t. NoAction t n p) n p
  unfolding dearest_of
  dearest_row n p = given (read_task f) _ _ n p (λ t. (
    λ h. elim (action_at_lem t.actions a) [
      | inl o ↦ let e : refused 11 0 ≡ refused n p = sym (ap (on t) o.1) ∙ h in (o.0, cc, cc)
      | inr o ↦ absurd (not_accepted (sym (ap (on t) o.2) ∙ h))
    ],
    λ d. elim (action_at_lem t.actions a) [
      | inl o ↦ ap (on t) o.1 ∙ ap₂ refused (sym d.1) (sym d.2)
      | inr o ↦ absurd (omega (arith, o.0, d.0))
    ],
  ))
    where
      on : Task → Read Action → Read (List ℕ × ℕ)
      on t r = ◌>>=◌ r (λ x. accepted (dearest_state t.sizes x, greatest_cost t.sizes x))

  pub numbers_of_dearest : (room n p : ℕ) → answer_in room (dearest_of f a) ≡ refused n p → OfCosts n ⊎ (n ≡ 7)
  numbers_of_dearest room n p h =
      by_given (λ e. inl (by_given (λ k. inl (file_numbers (task_faults f) k)) (λ t d. let q = d.1 in inr (omega arith, omega arith)) ((dearest_row n p).0 e))) (λ c s. inr s.0) ((answer_room room (dearest_of f a) n p).0 h)

  at_most : {n p : ℕ} → Placed {X = Task} (suc max_bytes) (refused n p) → p ≤ maxProbeList
  at_most (place l) = omega arith

  within : Bytes f → (r : Read (List ℕ × ℕ)) → dearest_of f a ≡ r → Within (Carried max_variables max_cost) maxProbeList r
  within bytes (accepted c) h = let o = dearest_given f a h in value {x = c} (omega (arith, o.wide, (task_limits f o.reads).variables), dearest_most f a bytes h)
  within bytes (refused n p) h = place (by_given (λ e. at_most {n = n} (rw e at (task_places f))) (λ t d. omega (arith, d.2)) ((dearest_row n p).0 h))

  pub dearest_range : Bytes f → (room : ℕ) → Within (Written max_variables max_cost) maxProbeList (answer_in room (dearest_of f a))
  dearest_range bytes room = answer_range room (omega arith) (within bytes (dearest_of f a) refl)
