-- Laws that the compiling program rests on: reading no more than 3,827 bytes loses nothing. That its buffer always has room: proofs/ProgramLaws.antt.
use Rattle.std.specs.Prelude.{◌≡◌, ℕ, suc, ◌≤◌, List, take}
use Rattle.std.proofs.Common.{ap}
use Rattle.facts.specs.Read.{accepted}
use Rattle.facts.specs.Write.{length_in, written_in}
use Rattle.facts.specs.WriteLaws.{length_inv}
use Rattle.taskfile.specs.Task.{max_bytes}
use Rattle.taskfile.specs.FrontLaws.{front_enough}
use Rattle.compilation.specs.CompileFile.{probe_file_of, compile_file, compiled_buffer}

-- The answer for the first 3,827 bytes of an input is the answer for all of it, and so is what is written.
front_file : (f : List ℕ) → probe_file_of (take (suc max_bytes) f) ≡ probe_file_of f
unfolding probe_file_of
front_file f = rw (front_enough f)

pub front_answer : (f : List ℕ) (room : ℕ) → compile_file (take (suc max_bytes) f) room ≡ compile_file f room
front_answer f room = ap (length_in room) (front_file f)

pub front_buffer : (f out : List ℕ) → compiled_buffer (take (suc max_bytes) f) out ≡ compiled_buffer f out
front_buffer f out = ap (written_in out) (front_file f)

-- What is written fits the room that was lent.
pub answer_fits : (f : List ℕ) (room : ℕ) {n : ℕ} → compile_file f room ≡ accepted n → n ≤ room
answer_fits f room h = (length_inv (probe_file_of f) room h).fits
