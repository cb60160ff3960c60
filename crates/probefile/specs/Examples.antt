-- Document 01's cases about probe files, as theorems: the file written from task P, its runs, and the table of refusals.
use Rattle.std.specs.Prelude.{◌≡◌, refl, ℕ, List, [], ◌∷◌, ◌++◌, map, length, set, replicate, take}
use Rattle.facts.specs.Read.{Read, accepted, refused}
use Rattle.facts.specs.Bytes.{number_at}
use Rattle.facts.specs.Partial.{Partial, write_partial}
use Rattle.facts.specs.Fields.{read_number, field, read_count, read_value, read_map, read_weight, read_values, read_partial, read_operator, read_sizes, read_head, read_end, write_operator, write_head}
use Rattle.facts.specs.Run.{run_from, at_most}
use Rattle.probefile.specs.Probe.{Probe, step_move, probe_sum}
use Rattle.probefile.specs.ProbeFile.{read_step, read_step_count, read_steps, read_probe, write_step, write_probe, check_probe, run_probe}

-- seven zero bytes
abbrev 0* : List ℕ
0* = 0 ∷ 0 ∷ 0 ∷ 0 ∷ 0 ∷ 0 ∷ 0 ∷ []

-- the 106 bytes that P compiles to
abbrev pub P_file : List ℕ
P_file =
    3 ∷ 2 ∷ 2 ∷ 3 ∷ 0 ∷ 0 ∷ 0 ∷ 7 ∷ 0* ++ 1 ∷ 0 ∷ 0 ∷ 4 ∷ 0
    ∷ 6 ∷ 0* ++ 0 ∷ 0 ∷ 6 ∷ 0* ++ 1 ∷ 1 ∷ 3 ∷ 0
    ∷ 5 ∷ 0* ++ 0 ∷ 1 ∷ 4 ∷ 0* ++ 2 ∷ 5 ∷ 0
    ∷ 5 ∷ 0* ++ 1 ∷ 1 ∷ 4 ∷ 0* ++ 2 ∷ 0 ∷ 0
    ∷ 4 ∷ 0* ++ 2 ∷ 7 ∷ 0* ++ 1 ∷ 0 ∷ 0 ∷ 0 ∷ 0 ∷ []

P_length : length P_file ≡ 106
P_length = refl

-- the facts of a partial state: its map, its values
abbrev facts : ℕ → List ℕ → Partial
facts map values = record { map = map; values = values }

-- the probe that is read in it: P's variable, the semaphore and the marker; start, two edges, end
abbrev pub P_probe : Probe
P_probe = record {
  sizes = 2 ∷ 2 ∷ 3 ∷ [];
  init = 0 ∷ 0 ∷ 0 ∷ [];
  goal = facts 7 (1 ∷ 0 ∷ 0 ∷ []);
  steps =
      record { pre = facts 6 (0 ∷ 0 ∷ []); eff = facts 6 (1 ∷ 1 ∷ []); cost = 3 }
      ∷ record { pre = facts 5 (0 ∷ 1 ∷ []); eff = facts 4 (2 ∷ []); cost = 5 }
      ∷ record { pre = facts 5 (1 ∷ 1 ∷ []); eff = facts 4 (2 ∷ []); cost = 0 }
      ∷ record { pre = facts 4 (2 ∷ []); eff = facts 7 (1 ∷ 0 ∷ 0 ∷ []); cost = 0 }
      ∷ [];
}

P_read : read_probe P_file ≡ accepted P_probe
unfolding read_probe read_steps read_step_count read_step read_operator read_head read_sizes read_values read_partial read_weight read_map read_value read_count read_end field read_number number_at
P_read = refl

P_written : write_probe P_probe ≡ P_file
unfolding write_probe write_step write_operator write_head write_partial
P_written = refl

-- ---- runs of P's file, and the table of refusals for probe files: each row with what is answered

-- a list on P's file, and the answer of its run
pub record RunCase : Type 0 where
  pub list : List ℕ
  pub answer : Read ℕ

abbrev on : List ℕ → Read ℕ → RunCase
on list answer = record { list = list; answer = answer }

abbrev pub run_cases : List RunCase
run_cases =
    on [] (refused 10 0)
    -- 11 at the index of a step that there is not, but 9 where an earlier one does not apply
    ∷ on (0 ∷ 4 ∷ []) (refused 11 1)
    ∷ on (3 ∷ 9 ∷ []) (refused 9 0)
    -- 8 at the limit, before anything in the list
    ∷ on (replicate 6657 9) (refused 8 6656)
    ∷ on (replicate 6656 9) (refused 11 0)
    ∷ []

-- what a run opens
running : Unit {0}
unfolding run_probe read_probe read_steps read_step_count read_step read_operator read_head read_sizes read_values read_partial read_weight read_map read_value read_count read_end field read_number number_at at_most probe_sum run_from step_move
running = tt

runs : map (λ c. run_probe P_file c.list) run_cases ≡ map (λ c. c.answer) run_cases
unfolding running
runs = refl

-- the marked ones
pub list_0_1_3 : run_probe P_file (0 ∷ 1 ∷ 3 ∷ []) ≡ accepted 8
unfolding running
list_0_1_3 = refl

pub list_0_1 : run_probe P_file (0 ∷ 1 ∷ []) ≡ refused 10 2
unfolding running
list_0_1 = refl

pub list_0_2_3 : run_probe P_file (0 ∷ 2 ∷ 3 ∷ []) ≡ refused 9 1
unfolding running
list_0_2_3 = refl

-- a file that is turned down: the refusal's number and place
pub record TurnedDown : Type 0 where
  pub file : List ℕ
  pub number : ℕ
  pub place : ℕ

abbrev down : List ℕ → ℕ → ℕ → TurnedDown
down file number place = record { file = file; number = number; place = place }

abbrev pub refusal_cases : List TurnedDown
refusal_cases =
    -- the file ends before or inside a field
    down [] 1 0
    ∷ down (take 3 P_file) 1 3
    ∷ down (take 14 P_file) 1 7
    ∷ down (take 17 P_file) 1 17
    ∷ down (take 19 P_file) 1 18
    ∷ down (take 105 P_file) 1 104
    -- bytes after the last field
    ∷ down (P_file ++ (0 ∷ [])) 2 106
    -- a count or a domain size outside its range: 57 variables, 66 values and 576 steps pass
    ∷ down (set P_file 0 0) 3 0
    ∷ down (58 ∷ []) 3 0
    ∷ down (57 ∷ []) 1 1
    ∷ down (set P_file 1 1) 3 1
    ∷ down (1 ∷ 67 ∷ []) 3 1
    ∷ down (1 ∷ 66 ∷ []) 1 2
    ∷ down (set (set P_file 18 65) 19 2) 3 18
    ∷ down (set (set P_file 18 64) 19 2) 1 106
    -- a value outside its domain
    ∷ down (set P_file 4 2) 4 4
    ∷ down (set P_file 15 2) 4 15
    ∷ down (set P_file 60 3) 4 60
    -- a map bit for no variable, before the values are looked at
    ∷ down (set P_file 7 8) 5 7
    ∷ down (set P_file 27 1) 5 20
    ∷ []

refusals : map (λ c. check_probe c.file) refusal_cases ≡ map (λ c. refused c.number c.place) refusal_cases
unfolding check_probe read_probe read_steps read_step_count read_step read_operator read_head read_sizes read_values read_partial read_weight read_map read_value read_count read_end field read_number number_at
refusals = refl
