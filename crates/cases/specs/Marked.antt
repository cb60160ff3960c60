-- The marked cases of document 01 ("Known cases", marked *), gathered as one checked list, in the document's order. Each is about the definitions that
-- the contracts of the operations cite: bytes in, bytes or refusals out.
use Rattle.std.specs.Prelude.{◌≡◌, refl, ℕ, List, [], ◌∷◌, ◌++◌, length}
use Rattle.std.proofs.Common.{arith, drop_of_length-le}
use Rattle.facts.specs.Read.{accepted, refused}
use Rattle.facts.specs.Write.{over}
use Rattle.facts.specs.WriteLaws.{length_in_lem, written_in_lem}
use Rattle.estimate.specs.Number.{exact, never}
use Rattle.taskfile.specs.TaskFile.{cost_task, run_task}
use Rattle.taskfile.specs.Examples.{P_bytes, P_read, xy²+z+2_bytes, answering, list_0, empty_list, costs_6, costs_3}
use Rattle.relaxation.specs.RelaxedTask.{relaxed_task}
use Rattle.relaxation.specs.EstimateTask.{estimate_task}
use Rattle.relaxation.specs.FileExamples.{A_and_B, set_A, set_B, relaxed_2, relaxed_3, estimate_1, estimate_2, estimate_never}
use Rattle.probefile.specs.ProbeFile.{run_probe}
use Rattle.probefile.specs.Examples.{P_file, list_0_1_3, list_0_1, list_0_2_3}
use Rattle.compilation.specs.CompileFile.{compile_file, compiled_buffer}
use Rattle.compilation.specs.CompileFileLaws.{file_of_lem}
use Rattle.compilation.specs.Examples.{P_written}
use Rattle.plans.specs.Carry.{expand}
use Rattle.carry.specs.CarryFile.{expanded}

-- ---- the document's bytes: `P_file` are the 106, in crate probefile

-- "A and B at 0, goal A=1", with both actions; "without the second"; "goal B=1 without it"
abbrev both_bytes : List ℕ
both_bytes = A_and_B 1 2 (set_A ++ set_B)

abbrev first_bytes : List ℕ
first_bytes = A_and_B 1 1 set_A

abbrev goal_B_bytes : List ℕ
goal_B_bytes = A_and_B 2 1 set_A

-- ---- the list

pub record Marked : Type 0 where
  -- "P compiles to these 106 bytes"
  pub P_compiles : compile_file P_bytes 106 ≡ accepted 106
  pub P_written : (out : List ℕ) → length out ≡ 106 → compiled_buffer P_bytes out ≡ P_file
  -- "P, list 0: sum 8; expands to 0,1,3."
  pub P_list_0 : run_task P_bytes (0 ∷ []) ≡ accepted (record { cost = 8; passed = 1 })
  pub P_expands : expanded P_bytes (0 ∷ []) ≡ accepted (0 ∷ 1 ∷ 3 ∷ [], 8)
  -- "That probe list: sum 8."
  pub probe_list_0_1_3 : run_probe P_file (0 ∷ 1 ∷ 3 ∷ []) ≡ accepted 8
  -- "Probe list 0,1: 10 at 2."
  pub probe_list_0_1 : run_probe P_file (0 ∷ 1 ∷ []) ≡ refused 10 2
  -- "Probe list 0,2,3: 9 at 1."
  pub probe_list_0_2_3 : run_probe P_file (0 ∷ 2 ∷ 3 ∷ []) ≡ refused 9 1
  -- "Empty list on P: 10 at 0."
  pub P_empty_list : run_task P_bytes [] ≡ refused 10 0
  -- "For xy²+z+2 (x, z of 2 values, y of 3): (1,2,0) costs 6"
  pub cost_6 : cost_task xy²+z+2_bytes 0 (1 ∷ 2 ∷ 0 ∷ []) ≡ accepted (record { cost = 6; passed = 3 })
  -- "(0,2,1) costs 3"
  pub cost_3 : cost_task xy²+z+2_bytes 0 (0 ∷ 2 ∷ 1 ∷ []) ≡ accepted (record { cost = 3; passed = 2 })
  -- "relaxed {0,1},{1,2},{0}: 2"
  pub relaxed_cost_2 : relaxed_task xy²+z+2_bytes 0 (3 ∷ 6 ∷ 1 ∷ []) ≡ accepted 2
  -- "{1},{1,2},{0,1}: 3"
  pub relaxed_cost_3 : relaxed_task xy²+z+2_bytes 0 (2 ∷ 6 ∷ 3 ∷ []) ≡ accepted 3
  -- "A and B at 0, goal A=1, one action sets A=1 at 2-2B, another sets B=1 at 1: estimate 1"
  pub estimated_1 : estimate_task both_bytes (0 ∷ 0 ∷ []) ≡ accepted (exact 1)
  -- "without the second, 2"
  pub estimated_2 : estimate_task first_bytes (0 ∷ 0 ∷ []) ≡ accepted (exact 2)
  -- "goal B=1 without it, never"
  pub estimated_never : estimate_task goal_B_bytes (0 ∷ 0 ∷ []) ≡ accepted never

-- ---- P's file

P_room : compile_file P_bytes 106 ≡ accepted 106
P_room = let h = rw P_written at (file_of_lem P_bytes P_read) in length_in_lem h (omega arith)

-- a buffer that has just the room is filled
P_filled : (out : List ℕ) → length out ≡ 106 → compiled_buffer P_bytes out ≡ P_file
unfolding over
P_filled out e = let h = rw P_written at (file_of_lem P_bytes P_read) in rw (written_in_lem h out (omega (arith, e)), drop_of_length-le out {i = 106} (omega (arith, e)))

P_expanded : expanded P_bytes (0 ∷ []) ≡ accepted (0 ∷ 1 ∷ 3 ∷ [], 8)
unfolding answering expanded expand
P_expanded = refl

-- ---- the list, checked

pub marked : Marked
marked = record {
  P_compiles = P_room;
  P_written = P_filled;
  P_list_0 = list_0;
  P_expands = P_expanded;
  probe_list_0_1_3 = list_0_1_3;
  probe_list_0_1 = list_0_1;
  probe_list_0_2_3 = list_0_2_3;
  P_empty_list = empty_list;
  cost_6 = costs_6;
  cost_3 = costs_3;
  relaxed_cost_2 = relaxed_2;
  relaxed_cost_3 = relaxed_3;
  estimated_1 = estimate_1;
  estimated_2 = estimate_2;
  estimated_never = estimate_never;
}
