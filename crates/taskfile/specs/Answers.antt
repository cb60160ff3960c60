-- What the answers of the code mean.
use Rattle.std.specs.Prelude.{ℕ, Result}
use Rattle.facts.specs.declared.Refusal.{Refusal}
use Rattle.facts.specs.Read.{Read, with_value}
use Rattle.facts.specs.Answers.{answer}
use Rattle.taskfile.specs.Task.{Walk}
use Rattle.taskfile.specs.declared.Walked.{Walked}

-- what an action or a run on a task costs, and how many nodes are passed
abbrev pub tallied_answer : Result Walked Refusal → Read Walk
tallied_answer r = with_value (λ (w : Walked). record { cost = w.cost; passed = w.passed }) (answer r)

-- each of the two by itself
abbrev pub sum_answer : Result Walked Refusal → Read ℕ
sum_answer r = with_value (λ (w : Walked). w.cost) (answer r)

abbrev pub passed_answer : Result Walked Refusal → Read ℕ
passed_answer r = with_value (λ (w : Walked). w.passed) (answer r)
