-- How large the answers of running and expanding a task's list can be, for every file, list and buffer.
use Rattle.std.specs.Prelude.{◌≡◌, ℕ, suc, ◌≤◌, length}
use Rattle.std.proofs.Common.{arith}
use mathlib.Core.List.{List}
use Rattle.facts.specs.Read.{accepted, ◌>>=◌}
use Rattle.facts.specs.ReadLaws.{through, bind_assoc}
use Rattle.facts.specs.Bytes.{Bytes}
use Rattle.facts.specs.State.{Inside}
use Rattle.facts.specs.Run.{at_most}
use Rattle.taskfile.specs.Task.{Task, Walk, max_bytes, max_list, max_cost, action_move, task_sum}
use Rattle.taskfile.specs.TaskFile.{read_task, run_task, sum_task}
use Rattle.taskfile.proofs.TaskReadLaws.{task_wf, task_limits}
use Rattle.taskfile.proofs.TaskLaws.{action_kept}
use Rattle.probefile.specs.Probe.{max_list as maxProbeList}
use Rattle.plans.specs.Carry.{expand}
use Rattle.plans.proofs.LengthLaws.{expand_fits}
use Rattle.carry.specs.CarryFile.{expanded, answer_in}
use Rattle.carry.specs.SameSumLaws.{fits_inv}
use Rattle.carry.specs.LongList.{sum_of_run, long_list}
use Rattle.cases.specs.PlaceLaws.{Within, value, then_within, of_made, more_within, task_places}
use Rattle.cases.specs.Ranges.{Walked, list_range, most_of_task, most_passed, Carried, Written, answer_range}

-- ---- runs

module _ (f : List ℕ) (bytes : Bytes f) {t : Task} (h : read_task f ≡ accepted t) where
  task_sum_range : (list : List ℕ) → Within (λ c. c ≤ most_of_task) max_list (◌>>=◌ (at_most max_list list) (λ u. task_sum t list))
  unfolding task_sum
  task_sum_range list = list_range (length t.actions) (action_move t.actions) t.goal (Inside t.sizes) max_cost (action_kept f h bytes) max_list most_of_task list t.init (task_wf f h).init (omega arith)

sum_task_range : (f : List ℕ) → Bytes f → (list : List ℕ) → Within (λ sum. sum ≤ most_of_task) (suc max_bytes) (sum_task f list)
unfolding sum_task
sum_task_range f bytes list = then_within _ (task_places f) (λ t h g. more_within (task_sum_range f bytes h list) (omega arith))

pub run_task_range : (f : List ℕ) → Bytes f → (list : List ℕ) → Within (Walked most_passed most_of_task) (suc max_bytes) (run_task f list)
run_task_range f bytes list =
    of_made (λ (w : Walk). w.cost) (run_task f list) (rw (sum_of_run f list) (sum_task_range f bytes list)) (λ w h dear. let l = long_list f list w h in (omega (arith, l.few, l.exactly, l.most), dear))

-- ---- what is written

expanded_range : (f : List ℕ) → Bytes f → (list : List ℕ) → Within (Carried maxProbeList most_of_task) maxProbeList (expanded f list)
unfolding expanded
expanded_range f bytes list =
    then_within _ (more_within (task_places f) (omega arith)) (λ t h g.
    rw (← bind_assoc {Z = List ℕ × ℕ} (at_most max_list list) (λ u. task_sum t list) (λ sum. accepted (expand t list, sum)))
    (then_within _ (more_within (task_sum_range f bytes h list) (omega arith)) (λ sum e l. value (expand_fits t (task_wf f h) (task_limits f h) list (few t list e), l))))
  where
    few : (t : Task) (list : List ℕ) {sum : ℕ} → ◌>>=◌ (at_most max_list list) (λ u. task_sum t list) ≡ accepted sum → length list ≤ max_list
    few t list e = fits_inv max_list list (through (at_most max_list list) e).first

pub expand_range : (f : List ℕ) → Bytes f → (list : List ℕ) (room : ℕ) → Within (Written maxProbeList most_of_task) maxProbeList (answer_in room (expanded f list))
expand_range f bytes list room = answer_range room (omega arith) (expanded_range f bytes list)
