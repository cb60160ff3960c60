-- Which numbers a file and an operation can be refused with: no other is given.
use Rattle.std.specs.Prelude.{◌≡◌, ◌⊎◌, ℕ, ◌≤◌, List}
use Rattle.std.proofs.Common.{inl, inr, arith}
use Rattle.facts.specs.Read.{Read, refused}
use Rattle.facts.specs.ReadLaws.{not_made}
use Rattle.estimate.specs.Number.{Number}
use Rattle.estimate.specs.Additive.{estimate_file}
use Rattle.taskfile.specs.Task.{Task}
use Rattle.taskfile.specs.TaskFile.{read_task, check_task, cost_task, run_task}
use Rattle.probefile.specs.ProbeFile.{read_probe, check_probe, run_probe}
use Rattle.probe_estimate.specs.Estimate.{probe_estimate, estimate_probe}
use Rattle.relaxation.specs.RelaxedTask.{relaxed_task}
use Rattle.relaxation.specs.Estimate.{estimate}
use Rattle.relaxation.specs.EstimateTask.{estimate_task}
use Rattle.compilation.specs.Compile.{probe_of}
use Rattle.compilation.specs.CompileFile.{compile_file}
use Rattle.carry.specs.CarryFile.{expanded, contracted, answer_in}
use Rattle.cases.proofs.TaskSiteLaws.{task_faults}
use Rattle.cases.specs.FileRows.{file_numbers}
use Rattle.cases.proofs.FileRows.{probe_numbers}
use Rattle.cases.specs.ListRows.{ListFault}
use Rattle.cases.proofs.ListRows.{list_numbers}
use Rattle.cases.specs.OperationRows.{by_given, probe_system, Overfull, compile_room, answer_room}
use Rattle.cases.proofs.OperationRows.{run_task_lem, run_probe_lem, expand_list, contract_list}
use Rattle.cases.specs.StateRows.{Beyond, StateFault, AskFault, estimate_row, cost_row, state_numbers, ask_numbers}
use Rattle.cases.specs.LackingRows.{RelaxedFault, of_asking, lacking}
use Rattle.cases.proofs.LackingRows.{relaxed_row}
use Rattle.cases.specs.Numbers.{OfFiles, OfProbeFiles, OfLists, OfProbeLists, OfCosts}

-- ---- files

pub numbers_of_files : (f : List ℕ) (n p : ℕ) → (read_task f ≡ refused n p → OfFiles n) × (read_probe f ≡ refused n p → OfProbeFiles n)
numbers_of_files f n p = (file_numbers (task_faults f), probe_numbers f)

pub numbers_of_checks : (f : List ℕ) (n p : ℕ) → (check_task f ≡ refused n p → OfFiles n) × (check_probe f ≡ refused n p → OfProbeFiles n)
unfolding check_task check_probe
numbers_of_checks f n p = (λ h. file_numbers (task_faults f) (not_made _ (read_task f) h), λ h. probe_numbers f (not_made _ (read_probe f) h))

-- numbers that no file has
pub not_task : (f : List ℕ) {n p : ℕ} → 7 ≤ n → read_task f ≡ refused n p → ⊥
not_task f l h = let u = file_numbers (task_faults f) h in omega arith

pub not_probe : (f : List ℕ) {n p : ℕ} → 7 ≤ n → read_probe f ≡ refused n p → ⊥
not_probe f l h = let u = probe_numbers f h in omega arith

-- ---- lists

pub numbers_of_lists : (f list : List ℕ) (n p : ℕ)
    → (run_task f list ≡ refused n p → OfLists n) × (run_probe f list ≡ refused n p → OfProbeLists n) × (expanded f list ≡ refused n p → OfLists n) × (contracted f list ≡ refused n p → OfLists n)
numbers_of_lists f list n p = (
  λ h. by_given (λ e. inl (file_numbers (task_faults f) e)) (λ t d. inr (list_numbers d)) ((run_task_lem f list n p).0 h),
  λ h. by_given (λ e. inl (probe_numbers f e)) (λ y d. inr (list_numbers d)) ((run_probe_lem f list n p).0 h),
  λ h. by_given (λ e. inl (file_numbers (task_faults f) e)) (λ t d. inr (list_numbers d)) ((expand_list f list n p).0 h),
  λ h. by_given (λ e. inl (file_numbers (task_faults f) e)) (λ t d. inr (contract_numbers t d)) ((contract_list f list n p).0 h),
)
  where
    contract_numbers : (t : Task) → ListFault 6656 (probe_system (probe_of t)) list n p ⊎ Overfull f list n p t → (8 ≤ n) × (n ≤ 11)
    contract_numbers t (inl d) = list_numbers d
    contract_numbers t (inr o) = let e = o.0 in (omega arith, omega arith)

pub not_seven : OfLists 7 → ⊥
not_seven (inl u) = omega arith
not_seven (inr u) = omega arith

-- ---- the other operations

pub numbers_of_costs : (f : List ℕ) (a : ℕ) (s : List ℕ) (n p : ℕ) → (cost_task f a s ≡ refused n p → OfCosts n) × (relaxed_task f a s ≡ refused n p → OfCosts n ⊎ (n ≡ 17))
numbers_of_costs f a s n p = (
  λ h. by_given (λ e. inl (file_numbers (task_faults f) e)) (λ t. asked) ((cost_row f a s n p).0 h),
  λ h. by_given (λ e. inl (inl (file_numbers (task_faults f) e))) (λ t. relaxed) ((relaxed_row f a s n p).0 h),
)
  where
    asked : {Bad : ℕ → ℕ → Type 0} {t : Task} → AskFault Bad t a s n p → OfCosts n
    asked d = elim (ask_numbers {n = n} d) [ inl e ↦ inl (omega arith, omega arith) | inr u ↦ inr u ]

    relaxed : {t : Task} → RelaxedFault t a s n p → OfCosts n ⊎ (n ≡ 17)
    relaxed (of_asking d) = inl (asked d)
    relaxed (lacking e x h inside low) = inr e

-- of an estimate of any kind of file: the file's, 4 among them, or 12
estimate_numbers : {X : Type 0} (sizes : X → List ℕ) (estimate : X → List ℕ → Number) (file : Read X) (s : List ℕ) (n p most : ℕ) → 4 ≤ most → (file ≡ refused n p → (1 ≤ n) × (n ≤ most))
    → estimate_file sizes estimate file s ≡ refused n p → ((1 ≤ n) × (n ≤ most)) ⊎ (n ≡ 12)
estimate_numbers sizes estimate file s n p most l of_file h =
    by_given (λ e. inl (of_file e)) (λ x. of_state (sizes x)) ((estimate_row sizes estimate file s n p).0 h)
  where
    of_state : (domains : List ℕ) → StateFault Beyond domains s n p → ((1 ≤ n) × (n ≤ most)) ⊎ (n ≡ 12)
    of_state domains d = elim (state_numbers {n = n} d) [ inl e ↦ inl (omega arith, omega arith) | inr e ↦ inr e ]

pub numbers_of_estimates : (f s : List ℕ) (n p : ℕ) → (estimate_task f s ≡ refused n p → OfFiles n ⊎ (n ≡ 12)) × (estimate_probe f s ≡ refused n p → OfProbeFiles n ⊎ (n ≡ 12))
numbers_of_estimates f s n p = (
  estimate_numbers (λ t. t.sizes) estimate (read_task f) s n p 6 (omega arith) (file_numbers (task_faults f)),
  estimate_numbers (λ y. y.sizes) probe_estimate (read_probe f) s n p 5 (omega arith) (probe_numbers f),
)

pub numbers_of_compiling : (f : List ℕ) (room n p : ℕ) → compile_file f room ≡ refused n p → OfFiles n ⊎ (n ≡ 7)
numbers_of_compiling f room n p h = by_given (λ e. inl (file_numbers (task_faults f) e)) (λ t c. inr c.0) ((compile_room f room n p).0 h)

-- with a buffer: a list's, or 7
pub numbers_of_carrying : (f list : List ℕ) (room n p : ℕ)
    → (answer_in room (expanded f list) ≡ refused n p → OfLists n ⊎ (n ≡ 7)) × (answer_in room (contracted f list) ≡ refused n p → OfLists n ⊎ (n ≡ 7))
numbers_of_carrying f list room n p = (
  λ h. by_given (λ e. inl ((numbers_of_lists f list n p).2 e)) (λ c s. inr s.0) ((answer_room room (expanded f list) n p).0 h),
  λ h. by_given (λ e. inl ((numbers_of_lists f list n p).3 e)) (λ c s. inr s.0) ((answer_room room (contracted f list) n p).0 h),
)
