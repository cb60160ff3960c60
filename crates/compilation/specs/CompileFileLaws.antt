-- Laws of the probe file of a task file: what it is, and what it comes from.
use Rattle.std.specs.Prelude.{◌≡◌, ℕ, List, length, take}
use Rattle.std.proofs.Math.Path.{sym}
use Rattle.facts.specs.Read.{accepted, refused}
use Rattle.facts.specs.ReadLaws.{made, not_made}
use Rattle.facts.specs.WriteLaws.{written_inv}
use Rattle.taskfile.specs.Task.{Task}
use Rattle.taskfile.specs.TaskFile.{read_task, check_task}
use Rattle.probefile.specs.ProbeFile.{write_probe}
use Rattle.compilation.specs.Compile.{probe_of}
use Rattle.compilation.specs.CompileFile.{probe_file_of, compile_file, compiled_buffer}

module _ (f : List ℕ) where
  pub file_of_lem : {t : Task} → read_task f ≡ accepted t → probe_file_of f ≡ accepted (write_probe (probe_of t))
  unfolding probe_file_of
  file_of_lem h = rw h

  pub no_file : {n p : ℕ} → check_task f ≡ refused n p → probe_file_of f ≡ refused n p
  unfolding probe_file_of check_task
  no_file h = rw (not_made (λ (t : Task). tt) (read_task f) h)

  -- f has a task, and the n bytes at the front of the buffer are its probe file
  pub record CompiledFrom (out : List ℕ) (n : ℕ) : Type 0 where
    pub t : Task
    pub task : read_task f ≡ accepted t
    pub bytes : take n (compiled_buffer f out) ≡ write_probe (probe_of t)

  -- Where compiling answers a length, so many bytes are a task's probe file.
  pub compiled_from : (out : List ℕ) {n : ℕ} → compile_file f (length out) ≡ accepted n → CompiledFrom out n
  unfolding probe_file_of
  compiled_from out h =
      let m = made (λ (t : Task). write_probe (probe_of t)) (read_task f) (written_inv (probe_file_of f) out h) in
      record { t = m.from; task = m.answer; bytes = sym m.value }
