-- Document 01's task P compiled, and document 02's blank task: the probe files of 106 and of 16 bytes, computed.
use Rattle.std.specs.Prelude.{◌≡◌, refl, ℕ, List, [], ◌∷◌}
use Rattle.facts.specs.Partial.{empty, write_partial}
use Rattle.facts.specs.Fields.{write_operator, write_head}
use Rattle.taskfile.specs.TaskFile.{blank}
use Rattle.taskfile.specs.Examples.{P}
use Rattle.probefile.specs.Probe.{Probe}
use Rattle.probefile.specs.ProbeFile.{write_step, write_probe}
use Rattle.probefile.specs.Examples.{P_file, P_probe}
use Rattle.compilation.specs.Extend.{extend, clear}
use Rattle.compilation.specs.Compile.{steps_of, probe_of}

-- Variable 1 at 5 and variable 3 at 7: bits 1 and 3, lowest first.
two_facts : extend (extend empty 1 5) 3 7 ≡ record { map = 10; values = 5 ∷ 7 ∷ [] }
two_facts = refl

-- One fact of variable 0, then variables 1 and 2 at 0.
cleared : clear (extend empty 0 1) 1 2 ≡ record { map = 7; values = 1 ∷ 0 ∷ 0 ∷ [] }
cleared = refl

-- P's variable, the semaphore and the marker; start, two edges, end.
P_compiled : probe_of P ≡ P_probe
unfolding probe_of steps_of
P_compiled = refl

-- The bytes that are written are document 01's.
pub P_written : write_probe (probe_of P) ≡ P_file
unfolding probe_of steps_of write_probe write_step write_operator write_head write_partial
P_written = refl

-- ---- the blank task

-- Its variable and the semaphore, the goal that this is 0, no steps.
abbrev pub blank_probe : Probe
blank_probe = record { sizes = 2 ∷ 2 ∷ []; init = 0 ∷ 0 ∷ []; goal = record { map = 2; values = 0 ∷ [] }; steps = [] }

pub blank_compiled : probe_of blank ≡ blank_probe
unfolding probe_of steps_of
blank_compiled = refl

-- Document 02, W1: "Its probe file has 16 bytes".
abbrev pub blank_file : List ℕ
blank_file = 2 ∷ 2 ∷ 2 ∷ 0 ∷ 0 ∷ 2 ∷ 0 ∷ 0 ∷ 0 ∷ 0 ∷ 0 ∷ 0 ∷ 0 ∷ 0 ∷ 0 ∷ 0 ∷ []

pub blank_written : write_probe (probe_of blank) ≡ blank_file
unfolding probe_of steps_of write_probe write_step write_operator write_head write_partial
blank_written = refl
