-- What rounds of offers are about: achievers and a goal, as they stand in a file that has been checked.
use Rattle.std.specs.Prelude.{ℕ, List}
use Rattle.facts.specs.Lists.{All}
use Rattle.facts.specs.Partial.{Partial}
use Rattle.facts.specs.WellFormed.{WfPartial}
use Rattle.estimate.specs.Additive.{Achiever, WfAchiever}
use Rattle.estimate.specs.FallLaws.{Supported}

-- achievers and a goal over variables with these domain sizes, such that offers in turn end on the estimate
pub record WellPosed (sizes : List ℕ) (achievers : List Achiever) (goal : Partial) : Type 0 where
  pub achievers_wf : All (WfAchiever sizes) achievers
  pub supported : All (λ a. Supported a.cost) achievers
  pub goal_wf : WfPartial sizes goal
