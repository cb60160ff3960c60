use Prim.Native.Nat.{◌*◌, ◌≤◌}
use lib.ListN.{length}
use Rattle.compilation.specs.Compile.{flat, action_steps}
use Rattle.taskfile.specs.PartsInPlace.{actions_in}
use Rattle.probe_writer.specs.InPlaceLaws.{steps_left}
use Rattle.probe_writer.specs.ExtentLaws.{Counted}
use Rattle.probe_writer.proofs.length.extent_of.Given as goal

abbrev pub invariant-loop-a : goal.invariant-loop-a
invariant-loop-a l = (l.steps ≤ 17000 * l.a) × (l.bytes ≤ 350000 * l.a)
    × Counted (flat (action_steps (length l.sizes)) 0 (actions_in l.file l.sizes l.row 0 l.count)) (steps_left l.file l.sizes l.row l.count l.a) l.steps l.bytes
