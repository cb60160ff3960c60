-- Laws of the answer: what it is in a buffer of any length, and that a refusal writes nothing.
use Rattle.std.specs.Prelude.{◌≡◌, List, leb}
use Rattle.std.proofs.Math.Path.{refl, sym, ap}
use Rattle.std.proofs.Common.{◌∙◌}
use Prim.Native.Nat.{ℕ}
use Rattle.std.proofs.Math.ListN.{length}
use Rattle.facts.specs.Read.{Read, accepted, refused, check, with_value, ◌>>=◌}
use Rattle.facts.specs.Write.{length_in}
use Rattle.taskfile.specs.Task.{Task}
use Rattle.taskfile.specs.TaskFile.{read_task}
use Rattle.carry.specs.CarryFile.{answer_in, buffer_in}
use Rattle.carry.specs.Untouched.{Untouched, refusals_write_nothing}
use Rattle.dearest.specs.Dearest.{dearest_of}
use Rattle.dearest.proofs.FileLaws.{dearest_given}

module _ (f : List ℕ) (a : ℕ) where
  -- A refusal changes no byte of the buffer.
  pub dearest_writes_none : Untouched (λ out. answer_in (length out) (dearest_of f a)) (λ out. buffer_in out (dearest_of f a))
  dearest_writes_none = refusals_write_nothing.at_a_sum (dearest_of f a)

  -- What is answered for an action: the number of variables and the cost, or 7 with the number of variables.
  pub dearest_answer_lem : {state : List ℕ} {most : ℕ} → dearest_of f a ≡ accepted (state, most) → (t : Task) → read_task f ≡ accepted t → (room : ℕ)
      → answer_in room (dearest_of f a) ≡ ◌>>=◌ (check (leb (length t.sizes) room) 7 (length t.sizes)) (λ u. accepted (length t.sizes, most))
  unfolding answer_in length_in
  dearest_answer_lem {state} {most} h t r room =
      let g = dearest_given f a h in
      let same : g.task ≡ t = let e = sym g.reads ∙ r in cc in
      let wide : length state ≡ length t.sizes = g.wide ∙ ap (λ (t : Task). length t.sizes) same in
      rw (h, wide) (with_cost (check (leb (length t.sizes) room) 7 (length t.sizes)))
    where
      with_cost : (m : Read (Unit {0})) → with_value {Y = ℕ × ℕ} (λ (n : ℕ). (n, most)) (◌>>=◌ m (λ u. accepted (length t.sizes))) ≡ ◌>>=◌ m (λ u. accepted (length t.sizes, most))
      with_cost (accepted u) = refl
      with_cost (refused n p) = refl
