-- `step_writer::put::put_byte` meets its contract: one store.
use mathlib.Core.Path.{refl}
use mathlib.Core.List.{[], ◌∷◌}
use native.Mathlib.Omega.{arith}
use lib.Seq.{sets-eq}
use Rattle.facts.specs.Write.{over}
use Rattle.step_writer.proofs.put.put_byte.Goals as goal

pub returns : goal.returns
unfolding over
returns c = record { count = refl; buffer = sets-eq (c.args.byte ∷ []) c.args.out.now 0 (omega arith) }
