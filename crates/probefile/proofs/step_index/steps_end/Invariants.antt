use Prim.Native.Nat.{ℕ, ◌<◌}
use mathlib.Core.Path.{◌≡◌}
use lib.ListN.{length, drop, get_or}
use Rattle.facts.specs.Read.{accepted}
use Rattle.facts.specs.Lists.{up_from}
use Rattle.facts.specs.Fields.{next_of, each}
use Rattle.probefile.specs.ProbeFile.{read_step, read_steps}
use Rattle.probefile.proofs.step_index.steps_end.Given as goal

abbrev pub invariant-loop-i : goal.invariant-loop-i
invariant-loop-i l = (length l.offsets ≡ length l.initial.offsets) × (next_of (read_steps l.file l.sizes l.count l.from) ≡ next_of (each (λ r. read_step l.file l.sizes) (drop l.i (up_from 0 l.count)) l.at))
    × (next_of (read_steps l.file l.sizes l.i l.from) ≡ accepted l.at) × ((j : ℕ) → j < l.i → next_of (read_steps l.file l.sizes j l.from) ≡ accepted (get_or l.offsets j 0))
