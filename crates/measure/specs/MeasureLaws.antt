-- Laws of measuring: the length follows from the run alone.
use Rattle.std.specs.Prelude.{◌≡◌, ℕ, ◌+◌, ◌*◌, List, length}
use Rattle.std.proofs.Common.{ap}
use Rattle.facts.specs.Read.{accepted, refused}
use Rattle.taskfile.specs.Task.{Walk}
use Rattle.taskfile.specs.TaskFile.{run_task}
use Rattle.carry.specs.LongList.{long_list}
use Rattle.measure.specs.Measure.{measured}

module _ (f list : List ℕ) where
  -- A list that is refused.
  pub measured_refused : {n p : ℕ} → run_task f list ≡ refused n p → measured f list ≡ refused n p
  unfolding measured
  measured_refused h = rw h

  -- A plan.
  pub measured_plan : {run : Walk} → run_task f list ≡ accepted run → measured f list ≡ accepted (run, 2 * length list + run.passed)
  unfolding measured
  measured_plan {run} h = let l = long_list f list run h in rw (h, l.expands) (ap (λ (n : ℕ). accepted (run, n)) l.exactly)
