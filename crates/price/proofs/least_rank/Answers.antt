-- `price::least_rank` meets its contract: all values of the node's variable, inside the file or not.
use mathlib.Core.Path.{sym, ◌∙◌}
use native.Mathlib.Omega.{arith}
use Rattle.estimate.specs.NumberLaws.{ranked_never}
use Rattle.estimate.specs.Ranks.{rank_number}
use Rattle.relaxation.proofs.EstimateInPlaceLaws.{number_in_place}
use Rattle.relaxation.specs.Sums.{far}
use Rattle.price.proofs.least_rank.Goals as goal

pub returns-then-edges_inside-clause-result_value : goal.returns-then-edges_inside-clause-result_value
returns-then-edges_inside-clause-result_value c = let a = c.args in c.least_inside.ensures.result_value ∙ number_in_place a.file.now a.sizes.now (rank_number a.ranks.now) a.least.now a.node c.byte_at-variable.ensures c.byte_at-size.ensures

pub returns-then-best-ge-NEVER-clause-result_value : goal.returns-then-best-ge-NEVER-clause-result_value
returns-then-best-ge-NEVER-clause-result_value c =
    let a = c.args in ranked_never far (omega arith)
    ∙ sym (ranked_never c.least_by_value-best.result c.if-best-ge-NEVER.true)
    ∙ c.least_by_value-best.ensures
    ∙ number_in_place a.file.now a.sizes.now (rank_number a.ranks.now) a.least.now a.node c.byte_at-variable.ensures c.byte_at-size.ensures

pub returns-clause-result_value : goal.returns-clause-result_value
returns-clause-result_value c = let a = c.args in c.least_by_value-best.ensures ∙ number_in_place a.file.now a.sizes.now (rank_number a.ranks.now) a.least.now a.node c.byte_at-variable.ensures c.byte_at-size.ensures
