-- Laws that the compiling program rests on: its buffer always has room.
use Rattle.std.specs.Prelude.{◌≡◌, ℕ, ◌≤◌, List, length}
use Rattle.std.proofs.Common.{sym, subst, ◌∙◌}
use Rattle.facts.specs.Read.{accepted, refused, with_value}
use Rattle.facts.specs.ReadLaws.{made, not_made}
use Rattle.facts.specs.WriteLaws.{all_fit}
use Rattle.taskfile.specs.Task.{Task, max_written}
use Rattle.taskfile.specs.TaskFile.{read_task}
use Rattle.probefile.specs.ProbeFile.{write_probe}
use Rattle.compilation.specs.Compile.{probe_of}
use Rattle.compilation.proofs.CompiledLengthLaws.{compiled_length}
use Rattle.compilation.specs.CompileFile.{probe_file_of, compile_file}

-- A probe file has at most 13,846 bytes.
pub file_most : (f : List ℕ) {bytes : List ℕ} → probe_file_of f ≡ accepted bytes → length bytes ≤ max_written
unfolding probe_file_of
file_most f h = let m = made (λ (t : Task). write_probe (probe_of t)) (read_task f) h in subst (λ (bytes : List ℕ). length bytes ≤ max_written) m.value (compiled_length f m.answer)

-- With room for 13,846 bytes there is no refusal but the file's own.
pub always_room : (f : List ℕ) → compile_file f max_written ≡ with_value length (probe_file_of f)
always_room f = all_fit (probe_file_of f) max_written (λ bytes h. file_most f h)

pub not_compiled : (f : List ℕ) {n p : ℕ} → compile_file f max_written ≡ refused n p → read_task f ≡ refused n p
unfolding probe_file_of
not_compiled f h = not_made (λ (t : Task). write_probe (probe_of t)) (read_task f) (not_made length (probe_file_of f) (sym (always_room f) ∙ h))
