-- `estimate::start` meets its contract: the array that it lends has never for every fact.
use Rattle.estimate.specs.FactsLaws.{start_none}
use Rattle.estimate.proofs.start.Goals as goal

pub returns-clause-has_numbers : goal.returns-clause-has_numbers
returns-clause-has_numbers c = c.start_in.ensures.has_numbers start_none
