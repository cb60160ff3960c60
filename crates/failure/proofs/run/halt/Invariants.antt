use mathlib.Core.Path.{◌≡◌}
use lib.ListN.{length, drop}
use Rattle.failure.specs.InPlace.{halt_in}
use Rattle.failure.proofs.run.halt.Given as goal

abbrev pub invariant-loop-i : goal.invariant-loop-i
invariant-loop-i l = (length l.state ≡ length l.initial.state) × (halt_in l.file l.offsets 0 l.list l.initial.state ≡ halt_in l.file l.offsets l.i (drop l.i l.list) l.state)
