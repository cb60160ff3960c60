-- The examples of document 01's table of refusals (third and fourth column), row by row, as theorems: each is about the definitions that the contracts of
-- the operations cite. They are checked in proofs/TableExamples.antt.
use Rattle.std.specs.Prelude.{◌≡◌, ℕ, List, [], ◌∷◌, ◌++◌, length, set}
use Rattle.facts.specs.Read.{refused}
use Rattle.taskfile.specs.TaskFile.{check_task, cost_task, run_task}
use Rattle.taskfile.specs.Examples.{P_bytes}
use Rattle.relaxation.specs.RelaxedTask.{relaxed_task}
use Rattle.probefile.specs.ProbeFile.{run_probe}
use Rattle.probefile.specs.Examples.{P_file}
use Rattle.compilation.specs.CompileFile.{compile_file}

-- ---- the examples

pub record TableExamples : Type 0 where
  -- "the lone byte 01": 1; document 01 has zero bytes here, which are the blank task since W1 of document 02
  pub example_1 : check_task (1 ∷ []) ≡ refused 1 1
  -- "P and a byte": 40
  pub example_2 : (byte : ℕ) → check_task (P_bytes ++ (byte ∷ [])) ≡ refused 2 40
  -- "first byte 00": 0
  pub example_3 : check_task (set P_bytes 0 0) ≡ refused 3 0
  -- "P, third byte 02": 2
  pub example_4 : check_task (set P_bytes 2 2) ≡ refused 4 2
  -- "P, goal map 02": 3
  pub example_5 : check_task (set P_bytes 3 2) ≡ refused 5 3
  -- "P, node variable 01": 33
  pub example_6 : check_task (set P_bytes 33 1) ≡ refused 6 33
  -- "P written to 105 bytes": 106
  pub example_7 : compile_file P_bytes 105 ≡ refused 7 106
  -- "257 actions on P": 256
  pub example_8 : (list : List ℕ) → length list ≡ 257 → run_task P_bytes list ≡ refused 8 256
  -- "probe list 0,2,3 on P's file": 1
  pub example_9 : run_probe P_file (0 ∷ 2 ∷ 3 ∷ []) ≡ refused 9 1
  -- "empty list on P": 0
  pub example_10 : run_task P_bytes [] ≡ refused 10 0
  -- "list 1 on P": 0
  pub example_11 : run_task P_bytes (1 ∷ []) ≡ refused 11 0
  -- "2-byte state on P": 0
  pub example_12 : (x y : ℕ) → (cost_task P_bytes 0 (x ∷ y ∷ []) ≡ refused 12 0) × (relaxed_task P_bytes 0 (x ∷ y ∷ []) ≡ refused 12 0)
