-- `probe_estimate::rounds::offer_step` meets its contract: the effect follows the precondition, and never is offered to no effect. Assumes nothing.
use mathlib.Core.Path.{sym, ap₂, ◌∙◌}
use native.Mathlib.Omega.{arith}
use Rattle.estimate.specs.Number.{sum}
use Rattle.estimate.specs.NumberLaws.{ranked_exact, ranked_never}
use Rattle.probe_estimate.specs.EstimateLaws.{step_never, step_offered}
use Rattle.probe_estimate.proofs.rounds.offer_step.Goals as goal

pub returns-then-known-ge-NEVER-clause-has_ranks : goal.returns-then-known-ge-NEVER-clause-has_ranks
returns-then-known-ge-NEVER-clause-has_ranks c = step_never _ _ _ _ (sym c.sum_at-known.ensures.rank_value ∙ ranked_never c.sum_at-known.result.rank c.if-known-ge-NEVER.true)

pub returns-clause-has_ranks : goal.returns-clause-has_ranks
returns-clause-has_ranks c =
    let known = c.sum_at-known.ensures in
    let word = c.word_at in
    let lowered = c.lower_at.ensures in
    step_offered _ _ _ _ (known.sum_ends.there (omega (arith, c.if-known-ge-NEVER.false))) (word.ensures.0 ∙ c.requires)
    (c.sum_rank-offer.ensures ∙ ap₂ sum known.rank_value (ranked_exact word.result (omega (arith, word.ensures.1)))) lowered.has_ranks
