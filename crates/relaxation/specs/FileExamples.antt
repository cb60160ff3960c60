-- Document 01's known cases of relaxed costs and estimates, computed from the bytes of files: "Known cases", "Turned down".
use Rattle.std.specs.Prelude.{◌≡◌, refl, ℕ, List, [], ◌∷◌, ◌++◌, replicate}
use Rattle.facts.specs.Read.{accepted, refused}
use Rattle.estimate.specs.Number.{exact, never}
use Rattle.estimate.specs.Rounds.{settled}
use Rattle.estimate.specs.Additive.{additive_round, last_numbers, additive, estimate_file}
use Rattle.taskfile.specs.Examples.{xy²+z+2_bytes, P_bytes, answering}
use Rattle.relaxation.specs.Relaxed.{relaxed_cost}
use Rattle.relaxation.specs.Estimate.{least_cost}
use Rattle.relaxation.specs.RelaxedTask.{check_relaxed, check_meets, relaxed_in, relaxed_task}
use Rattle.relaxation.specs.EstimateTask.{estimate_task}

-- what an example opens
relaxing : Unit {0}
unfolding answering relaxed_cost check_relaxed check_meets relaxed_in relaxed_task
relaxing = tt

-- ---- xy² + z + 2, where x and z have 2 values and y has 3

-- the sets {0,1}, {1,2}, {0}
pub relaxed_2 : relaxed_task xy²+z+2_bytes 0 (3 ∷ 6 ∷ 1 ∷ []) ≡ accepted 2
unfolding relaxing
relaxed_2 = refl

-- the sets {1}, {1,2}, {0,1}
pub relaxed_3 : relaxed_task xy²+z+2_bytes 0 (2 ∷ 6 ∷ 3 ∷ []) ≡ accepted 3
unfolding relaxing
relaxed_3 = refl

-- ---- the order: the file, the number, the length, then the sets, the lowest variable first

no_task : relaxed_task (1 ∷ []) 1 [] ≡ refused 1 1
unfolding relaxing
no_task = refl

no_action : relaxed_task xy²+z+2_bytes 1 [] ≡ refused 11 0
unfolding relaxing
no_action = refl

short : relaxed_task xy²+z+2_bytes 0 (0 ∷ 6 ∷ []) ≡ refused 12 0
unfolding relaxing
short = refl

-- two sets on P, which has one variable
pub two_byte_sets : (x y : ℕ) → relaxed_task P_bytes 0 (x ∷ y ∷ []) ≡ refused 12 0
unfolding relaxing
two_byte_sets x y = refl

empty_set : relaxed_task xy²+z+2_bytes 0 (3 ∷ 0 ∷ 4 ∷ []) ≡ refused 4 1
unfolding relaxing
empty_set = refl

-- z has no value 2, and y no value 3
stray_bit : relaxed_task xy²+z+2_bytes 0 (3 ∷ 6 ∷ 4 ∷ []) ≡ refused 4 2
unfolding relaxing
stray_bit = refl

stray_beside : relaxed_task xy²+z+2_bytes 0 (3 ∷ 9 ∷ 1 ∷ []) ≡ refused 4 1
unfolding relaxing
stray_beside = refl

-- ---- the same with the precondition x = 1, z = 1 and the effect x = 0, and an action without nodes at 7 that needs the same

abbrev needs_x_z : List ℕ
needs_x_z = 5 ∷ replicate 7 0 ++ 1 ∷ 1 ∷ 1 ∷ replicate 7 0 ++ 0 ∷ []

abbrev pub guarded : List ℕ
guarded =
    3 ∷ 2 ∷ 3 ∷ 2 ∷ 0 ∷ 0 ∷ 0 ∷ replicate 8 0 ++ 2 ∷ needs_x_z ++ 2 ∷ 0 ∷ 3
    ∷ 0 ∷ 3 ∷ 0 ∷ 0 ∷ 2 ∷ 0 ∷ 0
    ∷ 1 ∷ 3 ∷ 0 ∷ 0 ∷ 3 ∷ 1 ∷ 0 ∷ 3 ∷ 4 ∷ 0
    ∷ 2 ∷ 4 ∷ 0 ∷ 0 ∷ 4 ∷ 1 ∷ 0 ∷ needs_x_z ++ 7 ∷ 0 ∷ 0 ∷ []

-- the sets {0,1}, {1,2}, {0,1}: it was 2, for x = 0 and z = 0, where the action does not apply
pub guarded_4 : relaxed_task guarded 0 (3 ∷ 6 ∷ 3 ∷ []) ≡ accepted 4
unfolding relaxing
guarded_4 = refl

pub guarded_7 : relaxed_task guarded 1 (3 ∷ 6 ∷ 3 ∷ []) ≡ accepted 7
unfolding relaxing
guarded_7 = refl

-- 17 at the lowest variable whose set lacks its value, without nodes too
pub lacks_x : relaxed_task guarded 0 (1 ∷ 6 ∷ 1 ∷ []) ≡ refused 17 0
unfolding relaxing
lacks_x = refl

pub lacks_z : relaxed_task guarded 1 (3 ∷ 6 ∷ 1 ∷ []) ≡ refused 17 2
unfolding relaxing
lacks_z = refl

-- after 4: the set of z is empty, and that of x lacks 1
pub empty_first : relaxed_task guarded 0 (1 ∷ 6 ∷ 0 ∷ []) ≡ refused 4 2
unfolding relaxing
empty_first = refl

-- ---- A and B, variables 0 and 1, at 0; the goal is that one of them, by its bit, is 1

-- what an estimate opens
estimating : Unit {0}
unfolding answering settled additive_round last_numbers additive estimate_file least_cost
estimating = tt

-- a partial state with no facts, and one that has the variable with this bit at 1
abbrev none : List ℕ
none = replicate 8 0

abbrev at_1 : ℕ → List ℕ
at_1 bit = bit ∷ replicate 7 0 ++ 1 ∷ []

-- sets A=1 at 2-2B
abbrev pub set_A : List ℕ
set_A = none ++ at_1 1 ++ 0 ∷ 0 ∷ 1 ∷ 1 ∷ 2 ∷ 2 ∷ 0 ∷ 2 ∷ 0 ∷ 0 ∷ []

-- sets B=1 at 1
abbrev pub set_B : List ℕ
set_B = none ++ at_1 2 ++ 1 ∷ 0 ∷ 0 ∷ []

-- the file with this goal and these actions, as many as `count` says
abbrev pub A_and_B : ℕ → ℕ → List ℕ → List ℕ
A_and_B goal count actions = 2 ∷ 2 ∷ 2 ∷ 0 ∷ 0 ∷ at_1 goal ++ count ∷ actions

pub estimate_1 : estimate_task (A_and_B 1 2 (set_A ++ set_B)) (0 ∷ 0 ∷ []) ≡ accepted (exact 1)
unfolding estimating
estimate_1 = refl

-- without the second action
pub estimate_2 : estimate_task (A_and_B 1 1 set_A) (0 ∷ 0 ∷ []) ≡ accepted (exact 2)
unfolding estimating
estimate_2 = refl

-- goal B=1 without it
pub estimate_never : estimate_task (A_and_B 2 1 set_A) (0 ∷ 0 ∷ []) ≡ accepted never
unfolding estimating
estimate_never = refl

-- from another state than the initial one
estimate_0 : estimate_task (A_and_B 1 2 (set_A ++ set_B)) (0 ∷ 1 ∷ []) ≡ accepted (exact 0)
unfolding estimating
estimate_0 = refl

-- the file, the length, then the lowest variable
estimate_no_task : estimate_task (1 ∷ []) [] ≡ refused 1 1
unfolding estimating
estimate_no_task = refl

estimate_short : estimate_task (A_and_B 1 1 set_A) (2 ∷ []) ≡ refused 12 0
unfolding estimating
estimate_short = refl

estimate_outside : estimate_task (A_and_B 1 1 set_A) (0 ∷ 2 ∷ []) ≡ refused 4 1
unfolding estimating
estimate_outside = refl

-- the blank task: its goal holds in both states
pub estimate_blank : (estimate_task [] (0 ∷ []) ≡ accepted (exact 0)) × (estimate_task [] (1 ∷ []) ≡ accepted (exact 0))
unfolding estimating
estimate_blank = (refl, refl)
