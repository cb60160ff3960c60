-- `offers::rounds::settle_in` meets its contract: the numbers are on the way from the start to the last round's, each turn in which a rank falls lowers the
-- sum of all ranks, and one in which none falls leaves the last numbers, which are put back.
use mathlib.Core.Path.{◌∙◌, subst}
use Prim.Native.Nat.{ℕ}
use Rattle.estimate.specs.RanksLaws.{roomy_same, started_fresh}
use Rattle.estimate.specs.InTurn.{InTurn}
use Rattle.estimate.specs.InTurnLaws.{turn_fell}
use Rattle.estimate.proofs.InTurnLaws.{nearing_start, nearing_on, nearing_end}
use Rattle.offers.proofs.rounds.settle_in.Goals as goal

pub loop-init : goal.loop-init
loop-init g c =
    let posed = c.requires.posed in
    record {
      count = c.start_in.auto.ranks;
      nearing = nearing_start _ _ _ posed.achievers_wf posed.supported (roomy_same c.requires.room c.start_in.auto.ranks) (started_fresh c.requires.fresh c.args.state.now c.start_in.ensures.has_ranks);
    }

pub loop-smaller : goal.loop-smaller
loop-smaller g c = (turn_fell c.offer.ensures).less c.loop-test.true

pub loop-preserved : goal.loop-preserved
loop-preserved g c =
    let posed = c.requires.posed in
    let l = c.loop in
    let turn = subst (λ (n : ℕ). InTurn n (g.A.Achievers.achievers c.args.all.now) l.ranks c.offer.new.ranks c.offer.result) c.requires.variables c.offer.ensures in
    record {
      count = (turn_fell turn).count ∙ l.invariant.count;
      nearing = nearing_on _ _ _ posed.achievers_wf posed.supported (roomy_same c.requires.room l.invariant.count) l.invariant.nearing turn;
    }

pub returns : goal.returns
returns g c =
    let posed = c.requires.posed in
    let l = c.loop in
    let turn = subst (λ (n : ℕ). InTurn n (g.A.Achievers.achievers c.args.all.now) l.ranks c.offer.new.ranks c.offer.result) c.requires.variables c.offer.ensures in
    c.goal_sum.ensures ∙ nearing_end _ _ _ posed.achievers_wf posed.supported (roomy_same c.requires.room l.invariant.count) l.invariant.nearing turn c.loop-test.false c.put_back.ensures posed.goal_wf
