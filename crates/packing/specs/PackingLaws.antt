-- What each C function returns for a file, unpacked, is the answer of its operation: the statement. The theorem, and the laws of packing, are in proofs/PackingLaws.antt.
use Rattle.std.specs.Prelude.{◌≡◌, ℕ, ◌≤◌, List}
use Rattle.facts.specs.Read.{Read, refused}
use Rattle.taskfile.specs.TaskFile.{check_task, cost_task, run_task}
use Rattle.probefile.specs.ProbeFile.{check_probe, run_probe}
use Rattle.probe_estimate.specs.Estimate.{estimate_probe}
use Rattle.relaxation.specs.RelaxedTask.{relaxed_task}
use Rattle.relaxation.specs.EstimateTask.{estimate_task}
use Rattle.compilation.specs.CompileFile.{compile_file}
use Rattle.carry.specs.CarryFile.{expanded, contracted, answer_in}
use Rattle.sheet.specs.SheetFile.{sheet_of}
use Rattle.packing.specs.Packing.{packed_check, packed_sum, packed_walk, packed_length, packed_list, packed_estimate, unpacked_check, unpacked_sum, unpacked_walk, unpacked_length, unpacked_list, unpacked_estimate}

-- ---- the theorem

-- what the C functions return for the file f
pub record Results (f : List ℕ) : Type 0 where
  pub check_task_lem : unpacked_check (packed_check (check_task f)) ≡ check_task f
  pub check_probe_lem : unpacked_check (packed_check (check_probe f)) ≡ check_probe f
  pub cost : (a : ℕ) (s : List ℕ) → unpacked_walk (packed_walk (cost_task f a s)) ≡ cost_task f a s
  pub relaxed_cost_lem : (a : ℕ) (sets : List ℕ) → unpacked_sum (packed_sum (relaxed_task f a sets)) ≡ relaxed_task f a sets
  pub run_task_lem : (list : List ℕ) → unpacked_walk (packed_walk (run_task f list)) ≡ run_task f list
  pub run_probe_lem : (list : List ℕ) → unpacked_sum (packed_sum (run_probe f list)) ≡ run_probe f list
  pub estimate_task_lem : (s : List ℕ) → unpacked_estimate (packed_estimate (estimate_task f s)) ≡ estimate_task f s
  pub estimate_probe_lem : (s : List ℕ) → unpacked_estimate (packed_estimate (estimate_probe f s)) ≡ estimate_probe f s
  pub compile : (room : ℕ) → unpacked_length (packed_length (compile_file f room)) ≡ compile_file f room
  pub expand : (list : List ℕ) (room : ℕ) → unpacked_list (packed_list (answer_in room (expanded f list))) ≡ answer_in room (expanded f list)
  pub contract : (list : List ℕ) (room : ℕ) → unpacked_list (packed_list (answer_in room (contracted f list))) ≡ answer_in room (contracted f list)
  pub sheet : (list : List ℕ) (room : ℕ) → unpacked_list (packed_list (answer_in room (sheet_of f list))) ≡ answer_in room (sheet_of f list)

-- ---- answers

-- a refusal's number is not 0
abbrev pub Numbered : {X : Type 0} → Read X → Type 0
Numbered r = (n p : ℕ) → r ≡ refused n p → 1 ≤ n
