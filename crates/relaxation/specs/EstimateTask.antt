-- Estimates of task files as bytes. Document 01, "Relaxed cost and estimate", "Turned down".
use Rattle.std.specs.Prelude.{ℕ, List}
use Rattle.facts.specs.Read.{Read}
use Rattle.estimate.specs.Number.{Number}
use Rattle.estimate.specs.Additive.{estimate_file}
use Rattle.taskfile.specs.TaskFile.{read_task}
use Rattle.relaxation.specs.Estimate.{estimate}

-- the estimate from the state s: 1 to 6 for the file, then 12 and 4 for the state
abbrev pub estimate_task : List ℕ → List ℕ → Read Number
estimate_task f s = estimate_file (λ t. t.sizes) estimate (read_task f) s
