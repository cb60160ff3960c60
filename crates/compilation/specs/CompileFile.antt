-- The operation: the probe file of a task file, written into a buffer. Document 01, "The probe file", "Turned down".
use Rattle.std.specs.Prelude.{ℕ, List}
use Rattle.facts.specs.Read.{Read, with_value}
use Rattle.facts.specs.Write.{length_in, written_in}
use Rattle.taskfile.specs.Task.{Task}
use Rattle.taskfile.specs.TaskFile.{read_task}
use Rattle.probefile.specs.ProbeFile.{write_probe}
use Rattle.compilation.specs.Compile.{probe_of}

-- the bytes of the probe file of a task file; 1 to 6 for the file
unfoldable pub probe_file_of : List ℕ → Read (List ℕ)
probe_file_of f = with_value (λ (t : Task). write_probe (probe_of t)) (read_task f)

-- what is answered, and the buffer afterwards, as for every operation that writes
abbrev pub compile_file : List ℕ → ℕ → Read ℕ
compile_file f room = length_in room (probe_file_of f)

abbrev pub compiled_buffer : List ℕ → List ℕ → List ℕ
compiled_buffer f out = written_in out (probe_file_of f)
