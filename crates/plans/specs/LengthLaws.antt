-- What a plan's run answers, and how long its expansion is. The laws are in proofs/LengthLaws.antt.
use Rattle.std.specs.Prelude.{◌≡◌}
use Prim.Native.Nat.{ℕ, ◌+◌, ◌*◌}
use mathlib.Core.List.{List}
use Rattle.std.proofs.Math.ListN.{length}
use Rattle.facts.specs.Read.{accepted}
use Rattle.taskfile.specs.Task.{Task, task_run}
use Rattle.plans.specs.Carry.{expand}

-- ---- plans

-- what the run of a list with the sum c answers, and how long its expansion is
pub record Counted (t : Task) (list : List ℕ) (c : ℕ) : Type 0 where
  pub total : ℕ
  pub run : task_run t list ≡ accepted (record { cost = c; passed = total })
  pub exactly : length (expand t list) ≡ 2 * length list + total
