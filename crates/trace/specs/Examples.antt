-- Traces of task P of document 01.
use Rattle.std.specs.Prelude.{◌≡◌, refl, true, false, [], ◌∷◌}
use Rattle.compilation.specs.Compile.{steps_of, probe_of}
use Rattle.text.specs.Text.{decimal}
use Rattle.text.specs.Append.{bytes}
use Rattle.words.specs.Words.{partial_text}
use Rattle.words.specs.Examples.{task_p}
use Rattle.steps.specs.Steps.{names_of}
use Rattle.trace.specs.Trace.{trace_text}
use Rattle.trace.specs.TraceFile.{task_trace}

group : Unit {0}
unfolding trace_text names_of probe_of steps_of partial_text decimal
group = tt

-- P's plan, with the states
plan : task_trace true task_p (0 ∷ 1 ∷ 3 ∷ [])
    ≡ bytes "initial state: 0 0 0\n0 start of action 0: cost 3, sum 3\n  needs: 1=0 2=0\n  sets: 1=1 2=1\n  state: 0 1 1\n1 action 0, node 1 at variable 0 = 0: cost 5, sum 8\n  needs: 0=0 2=1\n  sets: 2=2\n  state: 0 1 2\n3 end of action 0: cost 0, sum 8\n  needs: 2=2\n  sets: 0=1 1=0 2=0\n  state: 1 0 0\n"
unfolding group
plan = refl

-- a list whose second step does not apply, without them
other_value : task_trace false task_p (0 ∷ 2 ∷ 3 ∷ [])
    ≡ bytes "0 start of action 0: cost 3, sum 3\n  needs: 1=0 2=0\n  sets: 1=1 2=1\n2 action 0, node 1 at variable 0 = 1: does not apply\n  needs: 0=1 2=1\n  0=1, but variable 0 is 0\n"
unfolding group
other_value = refl

-- no list
nothing : task_trace true task_p [] ≡ bytes "initial state: 0 0 0\n"
unfolding group
nothing = refl
