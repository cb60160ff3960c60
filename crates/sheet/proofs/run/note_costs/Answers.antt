-- `sheet::run::note_costs` meets its contract: what is left of the list answers, from the state here, what the whole answers, and costs what is left to be noted.
use Rattle.std.proofs.Common.{◌≡◌, refl, sym, ap, ◌∙◌, length, get_or, arith}
use Rattle.facts.specs.Read.{refused}
use Rattle.facts.specs.Run.{next, blocked}
use Rattle.taskfile.specs.WalkInPlace.{move_at}
use Rattle.taskfile.specs.MoveInPlaceLaws.{moves, move_length, run_starts, running_missing, running_blocked, running_next, running_met, running_unmet}
use Rattle.sheet.specs.CostLaws.{noting_start, noting_blocked, noting_next}
use Rattle.sheet.proofs.run.note_costs.Goals as goal
use Rattle.sheet.proofs.run.note_costs.Goals.{In-Some, In_default}

-- it did not apply
not : (c : goal.In_default) → let a = c.args in let l = c.loop-i in blocked ≡ move_at a.file.now a.row.now (get_or a.list.now l.i 0) l.state
not c = let a = c.args in let l = c.loop-i in moves a.file.now a.row.now (get_or a.list.now l.i 0) l.state (λ w. w.cost) c.offset_at.ensures c.own_nodes-own.ensures c.in_default.ensures.state_after

-- it applied
applied : (c : goal.In-Some) → let a = c.args in let l = c.loop-i in next c.apply_action-act.new.state c.in-Some.walked.cost ≡ move_at a.file.now a.row.now (get_or a.list.now l.i 0) l.state
applied c = let a = c.args in let l = c.loop-i in moves a.file.now a.row.now (get_or a.list.now l.i 0) l.state (λ w. w.cost) c.offset_at.ensures c.own_nodes-own.ensures c.in-Some.ensures.state_after

pub loop-i-init : goal.loop-i-init
loop-i-init c = (refl, omega arith, run_starts _ _ _ _ _ c.requires.few, noting_start _ _ _ _ _)

pub returns-then-count-number-clause-result_value : goal.returns-then-count-number-clause-result_value
returns-then-count-number-clause-result_value c = running_missing c.loop-i.invariant.2 c.loop-i-test.true c.if-count-number.true

pub returns-in_default-clause-result_value : goal.returns-in_default-clause-result_value
returns-in_default-clause-result_value c = running_blocked c.loop-i.invariant.2 c.loop-i-test.true c.if-count-number.false (not (goal.at.returns-in_default-clause-result_value c).In_default)

pub returns-in_default-clause-costs_after : goal.returns-in_default-clause-costs_after
returns-in_default-clause-costs_after c = noting_blocked c.loop-i.invariant.3 c.requires.room c.loop-i-test.true c.if-count-number.false (not (goal.at.returns-in_default-clause-costs_after c).In_default)

pub loop-i-preserved : goal.loop-i-preserved
loop-i-preserved c =
    let a = c.args in
    let l = c.loop-i in
    let moved = applied (goal.at.loop-i-preserved c).In-Some in (
      move_length a.file.now a.row.now (get_or a.list.now l.i 0) l.state (sym moved) ∙ l.invariant.0,
      omega (arith, c.in-Some.ensures.most.0, l.invariant.1),
      running_next l.invariant.2 c.loop-i-test.true c.if-count-number.false moved,
      noting_next l.invariant.3 c.requires.room c.loop-i-test.true c.if-count-number.false moved,
    )

pub returns-then-holds_at-clause-result_value : goal.returns-then-holds_at-clause-result_value
returns-then-holds_at-clause-result_value c = running_met c.loop-i.invariant.2 c.loop-i-test.false (sym c.if-holds_at.true ∙ c.holds_at.ensures)

pub returns-clause-result_value : goal.returns-clause-result_value
returns-clause-result_value c =
    let end : length c.args.list.now ≡ c.loop-i.i = omega arith in
    ap (refused 10) end ∙ running_unmet c.loop-i.invariant.2 c.loop-i-test.false (sym c.if-holds_at.false ∙ c.holds_at.ensures)
