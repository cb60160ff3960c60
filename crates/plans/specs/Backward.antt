-- What it is that a probe list comes from a source plan. That every plan of the compiled task does: proofs/Backward.antt.
use Rattle.std.specs.Prelude.{◌≡◌, ℕ, List}
use Rattle.taskfile.specs.Task.{Task, Plan}
use Rattle.plans.specs.Carry.{expand}

-- a probe list that comes from a source plan with the sum c
pub record Comes (t : Task) (probe-list : List ℕ) (c : ℕ) : Type 0 where
  pub list : List ℕ
  pub expands : probe-list ≡ expand t list
  pub plan : Plan t list c
