-- What a plan comes to before it is expanded. Document 02, W7: "The field engineer wants to know beforehand how long the long list is."
use Rattle.std.specs.Prelude.{ℕ, List, length, Result}
use Rattle.facts.specs.declared.Refusal.{Refusal}
use Rattle.facts.specs.Read.{Read, accepted, with_value, ◌>>=◌}
use Rattle.facts.specs.Answers.{answer}
use Rattle.taskfile.specs.Task.{Walk}
use Rattle.taskfile.specs.TaskFile.{run_task}
use Rattle.carry.specs.CarryFile.{expanded}
use Rattle.measure.specs.declared.Measured.{Measured}

-- what the run of a list of actions answers, and how long the list is that expanding returns
unfoldable pub measured : List ℕ → List ℕ → Read (Walk × ℕ)
measured f list = do
  run ← run_task f list
  (long, sum) ← expanded f list
  accepted (run, length long)

-- sum, nodes passed and length
abbrev pub measured_answer : Result Measured Refusal → Read (Walk × ℕ)
measured_answer r = with_value (λ (m : Measured). (record { cost = m.run.cost; passed = m.run.passed }, m.steps)) (answer r)
