-- `task_estimate::rounds::offer_action` meets its contract: the precondition's sum and the least cost are offered to the effect, and never to none.
use mathlib.Core.Path.{sym, ap, ap₂, ◌∙◌}
use native.Mathlib.Omega.{arith}
use Rattle.estimate.specs.Number.{sum, ranked}
use Rattle.estimate.specs.NumberLaws.{ranked_exact, ranked_never, sum_never_first}
use Rattle.estimate.specs.OfferLaws.{offer_never}
use Rattle.estimate.specs.Ranks.{rank_number}
use Rattle.taskfile.specs.WalkInPlaceLaws.{weight_behind, count_behind}
use Rattle.relaxation.specs.EstimateInPlaceLaws.{climbing, cost_in_place, action_offered}
use Rattle.task_estimate.proofs.rounds.offer_action.Goals as goal

pub returns-then-known-ge-NEVER-clause-has_ranks : goal.returns-then-known-ge-NEVER-clause-has_ranks
returns-then-known-ge-NEVER-clause-has_ranks c = offer_never _ _ (sym (sum_never_first _ (sym c.sum_at-known.ensures.rank_value ∙ ranked_never c.sum_at-known.result.rank c.if-known-ge-NEVER.true)))

pub least_from-least-requires : goal.least_from-least-requires
least_from-least-requires c =
    let a = c.args in
    climbing c.requires (c.diagram_past-diagram.ensures.1 ∙ count_behind a.file.now a.at (c.sum_at-known.ensures.sum_ends.there (omega (arith, c.if-known-ge-NEVER.false))))

pub returns-clause-has_ranks : goal.returns-clause-has_ranks
returns-clause-has_ranks c =
    let a = c.args in
    let f = a.file.now in
    let of = rank_number a.ranks.now in
    let d = c.diagram_past-diagram in
    let behind = c.sum_at-known.ensures.sum_ends.there (omega (arith, c.if-known-ge-NEVER.false)) in
    let lowered = c.lower_at.ensures in
    let cost =
    c.sum_rank.ensures
    ∙ ap (λ x. sum x (ranked c.least_from-least.result)) (ranked_exact d.result.incoming (omega (arith, d.ensures.2)))
    ∙ cost_in_place f a.sizes.now a.at a.nodes.now of (d.ensures.0 ∙ weight_behind f a.at behind) d.ensures.2 (d.ensures.1 ∙ count_behind f a.at behind) c.least_from-least.ensures in
    action_offered f a.sizes.now a.at a.nodes.now of behind (c.sum_rank-offer.ensures ∙ ap₂ sum c.sum_at-known.ensures.rank_value cost) lowered.has_ranks
