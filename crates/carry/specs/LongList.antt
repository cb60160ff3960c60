-- Document 02, W7, over files: "The field engineer wants to know beforehand how long the long list is." A run's answer tells (`long_list`), and a run is refused exactly where expanding is (`refused_alike`).
use Rattle.std.specs.Prelude.{◌≡◌, refl, ◌↔◌, ℕ, ◌+◌, ◌*◌, ◌≤◌, List, length}
use Rattle.std.proofs.Common.{sym, ap, ◌∙◌, arith}
use Rattle.facts.specs.Read.{Read, accepted, refused, with_value, ◌>>=◌}
use Rattle.facts.specs.ReadLaws.{through, agree, not_made, with_value_bind}
use Rattle.facts.specs.Run.{at_most}
use Rattle.taskfile.specs.Task.{Walk, max_list, task_sum}
use Rattle.taskfile.specs.TaskFile.{read_task, run_task, sum_task}
use Rattle.taskfile.proofs.TaskReadLaws.{task_wf, task_limits}
use Rattle.plans.specs.Carry.{expand}
use Rattle.plans.proofs.LengthLaws.{run_sum, run_counted, expand_entries}
use Rattle.carry.specs.CarryFile.{expanded, answer_in}
use Rattle.carry.specs.SameSumLaws.{fits_inv, answer_in_lem, expanded_plan}

-- ---- the theorem

-- what a run on the task file f that answers a sum and a number of nodes tells of the list that expanding returns
pub record LongList (f list : List ℕ) (run : Walk) : Type 0 where
  pub few : length list ≤ max_list
  pub long : List ℕ
  pub expands : expanded f list ≡ accepted (long, run.cost)
  -- "The expanded list has twice the actions plus that total"
  pub exactly : length long ≡ 2 * length list + run.passed
  -- "so at most 26 steps an action."
  pub most : length long ≤ 26 * length list
  -- a buffer with room for so many entries is enough
  pub enough : (room : ℕ) → 2 * length list + run.passed ≤ room → answer_in room (expanded f list) ≡ accepted (2 * length list + run.passed, run.cost)

-- ---- the sum, by a run and by expanding

-- A run without its nodes.
pub sum_of_run : (f list : List ℕ) → with_value (λ (w : Walk). w.cost) (run_task f list) ≡ sum_task f list
unfolding run_task sum_task
sum_of_run f list =
    let sum : Walk → ℕ = λ w. w.cost in
    with_value_bind sum (read_task f) _ ∙ agree (read_task f) _ _ (λ t h. with_value_bind sum (at_most max_list list) _ ∙ agree (at_most max_list list) _ _ (λ u e. run_sum t list))

-- An expansion without its list.
pub sum_of_expanded : (f list : List ℕ) → with_value (λ (c : List ℕ × ℕ). c.1) (expanded f list) ≡ sum_task f list
unfolding expanded sum_task
sum_of_expanded f list =
    let sum : List ℕ × ℕ → ℕ = λ c. c.1 in
    with_value_bind sum (read_task f) _ ∙ agree (read_task f) _ _ (λ t h. with_value_bind sum (at_most max_list list) _ ∙ agree (at_most max_list list) _ _ (λ u e. alone (expand t list) (task_sum t list)))
  where
    alone : (long : List ℕ) (r : Read ℕ) → with_value (λ (c : List ℕ × ℕ). c.1) (◌>>=◌ r (λ sum. accepted (long, sum))) ≡ r
    alone long (accepted sum) = refl
    alone long (refused n p) = refl

-- ---- the proofs

-- A list is refused alike, at the same place.
pub refused_alike : (f list : List ℕ) (n p : ℕ) → (run_task f list ≡ refused n p) ↔ (expanded f list ≡ refused n p)
refused_alike f list n p =
    let sum : Walk → ℕ = λ w. w.cost in
    let other : List ℕ × ℕ → ℕ = λ c. c.1 in (
      λ h. not_made other (expanded f list) (sum_of_expanded f list ∙ sym (sum_of_run f list) ∙ ap (with_value sum) h),
      λ h. not_made sum (run_task f list) (sum_of_run f list ∙ sym (sum_of_expanded f list) ∙ ap (with_value other) h),
    )

pub long_list : (f list : List ℕ) (run : Walk) → run_task f list ≡ accepted run → LongList f list run
unfolding run_task
long_list f list run h =
    let a = through (read_task f) h in
    let t = a.got in
    let b = through (at_most max_list list) a.then in
    let (plan, exactly) = run_counted t list run b.then in
    let few = fits_inv max_list list b.first in
    let is = expanded_plan f a.first plan few in
    record {
      few = few;
      long = expand t list;
      expands = is;
      exactly = exactly;
      most = expand_entries t (task_wf f a.first) (task_limits f a.first) list;
      enough = λ room fits. answer_in_lem is (omega (arith, exactly)) ∙ ap (λ (n : ℕ). accepted (n, run.cost)) exactly;
    }
