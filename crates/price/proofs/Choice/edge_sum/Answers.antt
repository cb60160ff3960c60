-- `edge_sum` meets its contract: ranks below never's add up, and a weight has two bytes.
use mathlib.Core.Path.{sym, ap, ap₂, subst, ◌∙◌}
use native.Mathlib.Omega.{arith}
use lib.ListN.{length}
use Rattle.estimate.specs.Number.{capped, sum, ranked}
use Rattle.estimate.specs.NumberLaws.{ranked_never}
use Rattle.estimate.specs.Ranks.{Room, rank_number}
use Rattle.estimate.specs.RanksLaws.{rank_at}
use Rattle.relaxation.specs.EstimateInPlaceLaws.{number_never}
use Rattle.relaxation.specs.Sums.{Settled}
use Rattle.relaxation.specs.SumsLaws.{far_never, settled_sum}
use Rattle.price.proofs.Choice.edge_sum.Goals as goal
use Rattle.price.proofs.Choice.edge_sum.Goals.{Start}

-- there is room for the value
room : (c : goal.Start) → Room (length c.args.self.now.ranks.now) c.args.self.now.variable c.args.value
room c = let p = c.requires in record { variable = p.inside.variable; value = omega (arith, p.inside.values, p.below); place = omega (arith, p.inside.room, p.below) }

pub returns-then-number-ge-NEVER : goal.returns-then-number-ge-NEVER
returns-then-number-ge-NEVER c =
    let s = c.args.self.now in
    let d = c.args.value in
    let never-is = rank_at s.ranks.now s.variable d 0 (room (goal.at.returns-then-number-ge-NEVER c).Start) ∙ ranked_never _ c.if-number-ge-NEVER.true in
    far_never _ (omega arith) ∙ number_never s.file.now s.node (rank_number s.ranks.now) s.variable s.least.now d never-is

pub returns : goal.returns
returns c =
    let s = c.args.self.now in
    let w = c.weight_inside in
    let entry = c.rank_at in
    settled_sum _ w.result entry.result c.if-number-ge-NEVER.false w.ensures.1 (subst Settled (sym entry.ensures) (c.requires.apart.at _))
    ∙ ap₂ sum (ap capped w.ensures.0) (ap₂ sum (sym (rank_at s.ranks.now s.variable c.args.value 0 (room (goal.at.returns c).Start))) (ap ranked entry.ensures))
