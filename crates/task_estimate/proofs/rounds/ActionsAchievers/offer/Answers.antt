-- `offer` of the actions meets its contract: the offers of the actions that are left make the whole.
use mathlib.Core.Path.{sym, subst}
use native.Mathlib.Omega.{arith}
use lib.ListN.{get_or}
use Rattle.taskfile.specs.Row.{own_from}
use Rattle.taskfile.specs.MoveInPlaceLaws.{own_nodes}
use Rattle.relaxation.specs.EstimateInPlace.{Priceable}
use Rattle.relaxation.specs.EstimateInPlaceLaws.{actions_none, actions_more, actions_all}
use Rattle.estimate.specs.RanksLaws.{or_set, or_kept}
use Rattle.task_estimate.proofs.rounds.ActionsAchievers.offer.Goals as goal
use Rattle.task_estimate.proofs.rounds.ActionsAchievers.offer.Goals.{then-offer_action, else-offer_action}

pub loop-a-init : goal.loop-a-init
loop-a-init c = let s = c.args.self.now in actions_none s.file.now s.sizes.now s.row.now s.count c.args.ranks.now

pub offer_action-requires : goal.offer_action-requires
offer_action-requires c =
    let s = c.args.self.now in
    let row = s.row.now in
    let a = c.loop-a.a in
    subst (Priceable s.file.now s.sizes.now (get_or row a 0)) (sym (own_nodes row (own_from row a) c.own_nodes-own.ensures)) (c.requires.1 a (omega arith))

pub loop-a-preserved : goal.loop-a-preserved
loop-a-preserved c =
    let s = c.args.self.now in
    let row = s.row.now in
    let l = c.loop-a in
    let offered = c.offer_action.ensures in
    actions_more s.file.now s.sizes.now row s.count l.a l.invariant (omega arith) (own_nodes row (own_from row l.a) c.own_nodes-own.ensures) offered.has_ranks offered.fell
    (elim c.if-offer_action.branch [ then-offer_action t ↦ or_set _ t.if-offer_action.true t.fell-is | else-offer_action t ↦ or_kept _ t.if-offer_action.false t.fell-is ])

pub returns : goal.returns
returns c =
    let s = c.args.self.now in
    actions_all s.file.now s.sizes.now s.row.now s.count c.loop-a.a c.loop-a.invariant (omega arith)
