-- `probefile::step_index::index` meets its contract: what stands before the steps, and then the steps.
use native.Mathlib.Omega.{arith}
use Rattle.probefile.specs.IndexLaws.{count_fits, located_none}
use Rattle.probefile.proofs.step_index.index.Goals as goal

pub returns-in_err-variables-clause-located : goal.returns-in_err-variables-clause-located
returns-in_err-variables-clause-located c = located_none _ _ c.in_err-variables.ensures

pub index_steps-requires : goal.index_steps-requires
index_steps-requires c =
    let known = c.in_ok-variables.ensures in
    (known.0, known.1, omega (arith, c.requires, (count_fits _ known.0 known.1).0))
