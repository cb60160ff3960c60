-- Task P's action twice over, carried across either way, with the sums on both sides. Document 01's own cases are in crate `cases`.
use Rattle.std.specs.Prelude.{◌≡◌, refl, [], ◌∷◌}
use Rattle.facts.specs.Read.{accepted}
use Rattle.facts.specs.Run.{run_from}
use Rattle.taskfile.specs.Task.{walk_from, walk, action_move, action_passes, task_sum, task_passed, task_run}
use Rattle.taskfile.specs.Examples.{P}
use Rattle.probefile.specs.Probe.{step_move, probe_sum}
use Rattle.compilation.specs.Compile.{steps_of, probe_of}
use Rattle.plans.specs.Carry.{expand, contract}

-- ---- carried across

P_expands_twice : expand P (0 ∷ 0 ∷ []) ≡ 0 ∷ 1 ∷ 3 ∷ 0 ∷ 2 ∷ 3 ∷ []
unfolding expand
P_expands_twice = refl

P_contracts_twice : contract P (0 ∷ 1 ∷ 3 ∷ 0 ∷ 2 ∷ 3 ∷ []) ≡ 0 ∷ 0 ∷ []
unfolding contract
P_contracts_twice = refl

-- ---- the sums on either side

P_sum_twice : task_sum P (0 ∷ 0 ∷ []) ≡ accepted 11
unfolding walk_from walk action_move run_from task_sum
P_sum_twice = refl

-- two actions and two nodes: six entries
P_run_twice : task_run P (0 ∷ 0 ∷ []) ≡ accepted (record { cost = 11; passed = 2 })
unfolding walk_from walk action_move action_passes run_from task_sum task_passed task_run
P_run_twice = refl

P_probe_sum_twice : probe_sum (probe_of P) (expand P (0 ∷ 0 ∷ [])) ≡ accepted 11
unfolding step_move run_from probe_sum steps_of probe_of expand
P_probe_sum_twice = refl
