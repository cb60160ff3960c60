-- Document 01's task P and its probe file: why lists are no plans of them.
use Rattle.std.specs.Prelude.{◌≡◌, refl, ℕ, List, [], ◌∷◌, length}
use Rattle.facts.specs.Read.{Read, accepted, refused}
use Rattle.taskfile.specs.Task.{Task}
use Rattle.probefile.specs.Probe.{Probe}
use Rattle.probefile.specs.Examples.{P_probe}
use Rattle.text.specs.Text.{decimal}
use Rattle.text.specs.Append.{bytes}
use Rattle.words.specs.Examples.{task_p, task_two}
use Rattle.failure.specs.Failure.{halt_from, failure, action_pre, action_eff, step_pre, step_eff}

-- of a list on a task, and on a probe file
abbrev on_task : Task → List ℕ → Read (List ℕ)
on_task t list = failure (bytes "action ") (length t.actions) (action_pre t.actions) (action_eff t.actions) t.goal list t.init

abbrev on_probe : Probe → List ℕ → Read (List ℕ)
on_probe p list = failure (bytes "step ") (length p.steps) (step_pre p.steps) (step_eff p.steps) p.goal list p.init

-- P's plan, and the empty list: the goal fails
plan : on_task task_p (0 ∷ []) ≡ accepted []
unfolding halt_from
plan = refl

no_action : on_task task_p [] ≡ accepted (bytes "The goal fails:\n  0=1, but variable 0 is 0\n")
unfolding halt_from decimal
no_action = refl

-- an action that there is not, and one that does not apply: of the task of two actions, action 0 asks for the value 2 that action 1 changes
missing : on_task task_p (0 ∷ 1 ∷ []) ≡ refused 11 1
unfolding halt_from
missing = refl

not_twice : on_task task_two (1 ∷ 0 ∷ []) ≡ accepted (bytes "Entry 1 is action 0, whose precondition fails:\n  1=2, but variable 1 is 0\n")
unfolding halt_from decimal
not_twice = refl

-- P's probe list, one that starts at the end, and one without the end
steps : on_probe P_probe (0 ∷ 1 ∷ 3 ∷ []) ≡ accepted []
unfolding halt_from
steps = refl

end_first : on_probe P_probe (3 ∷ []) ≡ accepted (bytes "Entry 0 is step 3, whose precondition fails:\n  2=2, but variable 2 is 0\n")
unfolding halt_from decimal
end_first = refl

no_end : on_probe P_probe (0 ∷ 1 ∷ []) ≡ accepted (bytes "The goal fails:\n  0=1, but variable 0 is 0\n  1=0, but variable 1 is 1\n  2=0, but variable 2 is 2\n")
unfolding halt_from decimal
no_end = refl
