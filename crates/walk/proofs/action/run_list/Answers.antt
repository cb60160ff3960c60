-- `walk::action::run_list` meets its contract: what is left of the list answers, from the state here, and for the costs and for the nodes passed,
-- what the whole answers.
use Prim.Native.Nat.{ℕ, ◌≤◌}
use mathlib.Core.Path.{◌≡◌, refl, sym, ap, ◌∙◌, subst}
use mathlib.Core.List.{List}
use lib.ListN.{length, get_or}
use Rattle.taskfile.specs.declared.Walked.{Walked}
use Rattle.facts.specs.Answers.{move_of}
use Rattle.facts.specs.Run.{Move}
use Rattle.facts.specs.Read.{refused}
use Rattle.std.specs.Prelude.{Option, option_map, IfSome}
use Rattle.taskfile.specs.WalkInPlace.{move_at, passes_at, max_passed, max_walk}
use Rattle.taskfile.specs.MoveInPlaceLaws.{moves, move_length, run_long, run_starts, running_missing, running_blocked, running_next, running_met, running_unmet}
use native.Mathlib.Omega.{arith}
use Rattle.walk.proofs.action.run_list.Goals as goal
use Rattle.walk.proofs.action.run_list.Goals.{After-apply_action-act, In-Some}

-- the state after an action, and what the action did, by its cost and by the nodes passed
abbrev after : goal.After-apply_action-act → List ℕ
after c = c.apply_action-act.new.state

-- what an action answered, as a move by its cost and by the nodes passed
abbrev costs : Option Walked → List ℕ → Move
costs r s = move_of (option_map (λ walk. walk.cost) r) s

abbrev passes : Option Walked → List ℕ → Move
passes r s = move_of (option_map (λ walk. walk.passed) r) s

did : (c : goal.After-apply_action-act) → let a = c.args in let l = c.loop-i in let r = c.apply_action-act.result in let number = get_or a.list.now l.i 0 in (costs r (after c) ≡ move_at a.file.now a.row.now number l.state) × (passes r (after c) ≡ passes_at a.file.now a.row.now number l.state)
did c =
    let a = c.args in
    let l = c.loop-i in
    let own = c.own_nodes-own.ensures in
    let start = c.offset_at.ensures in
    let e = c.apply_action-act.ensures in (
      moves a.file.now a.row.now (get_or a.list.now l.i 0) l.state (λ w. w.cost) start own e.state_after,
      moves a.file.now a.row.now (get_or a.list.now l.i 0) l.state (λ w. w.passed) start own e.state_after_2,
    )

-- it costs little, and passes few nodes
small : (c : goal.In-Some) → (c.in-Some.walked.cost ≤ max_walk) × (c.in-Some.walked.passed ≤ max_passed)
small c = subst (λ (r : Option Walked). IfSome r (λ walk. (walk.cost ≤ max_walk) × (walk.passed ≤ max_passed))) c.in-Some.is c.apply_action-act.ensures.most

pub returns-then-long-clause-result_value : goal.returns-then-long-clause-result_value
returns-then-long-clause-result_value c = run_long _ _ _ _ _ c.if-long.true

pub returns-then-long-clause-result_value_2 : goal.returns-then-long-clause-result_value_2
returns-then-long-clause-result_value_2 c = run_long _ _ _ _ _ c.if-long.true

pub loop-i-init : goal.loop-i-init
loop-i-init c = (refl, omega arith, omega arith, run_starts _ _ _ _ _ c.if-long.false, run_starts _ _ _ _ _ c.if-long.false)

pub returns-then-count-number-clause-result_value : goal.returns-then-count-number-clause-result_value
returns-then-count-number-clause-result_value c = running_missing c.loop-i.invariant.3 c.loop-i-test.true c.if-count-number.true

pub returns-then-count-number-clause-result_value_2 : goal.returns-then-count-number-clause-result_value_2
returns-then-count-number-clause-result_value_2 c = running_missing c.loop-i.invariant.4 c.loop-i-test.true c.if-count-number.true

pub returns-in_default-clause-result_value : goal.returns-in_default-clause-result_value
returns-in_default-clause-result_value c = let not = sym c.in_default.is in running_blocked c.loop-i.invariant.3 c.loop-i-test.true c.if-count-number.false (ap (λ (r : Option Walked). costs r (after (goal.at.returns-in_default-clause-result_value c).After-apply_action-act)) not ∙ (did (goal.at.returns-in_default-clause-result_value c).After-apply_action-act).0)

pub returns-in_default-clause-result_value_2 : goal.returns-in_default-clause-result_value_2
returns-in_default-clause-result_value_2 c = let not = sym c.in_default.is in running_blocked c.loop-i.invariant.4 c.loop-i-test.true c.if-count-number.false (ap (λ (r : Option Walked). passes r (after (goal.at.returns-in_default-clause-result_value_2 c).After-apply_action-act)) not ∙ (did (goal.at.returns-in_default-clause-result_value_2 c).After-apply_action-act).1)

pub loop-i-preserved : goal.loop-i-preserved
loop-i-preserved c =
    let a = c.args in
    let l = c.loop-i in
    let applies = sym c.in-Some.is in
    let moved = ap (λ (r : Option Walked). costs r (after (goal.at.loop-i-preserved c).After-apply_action-act)) applies ∙ (did (goal.at.loop-i-preserved c).After-apply_action-act).0 in (
      move_length a.file.now a.row.now (get_or a.list.now l.i 0) l.state (sym moved) ∙ l.invariant.0,
      omega (arith, small (goal.at.loop-i-preserved c).In-Some),
      omega (arith, small (goal.at.loop-i-preserved c).In-Some),
      running_next l.invariant.3 c.loop-i-test.true c.if-count-number.false moved,
      running_next l.invariant.4 c.loop-i-test.true c.if-count-number.false (ap (λ (r : Option Walked). passes r (after (goal.at.loop-i-preserved c).After-apply_action-act)) applies ∙ (did (goal.at.loop-i-preserved c).After-apply_action-act).1),
    )

pub returns-then-holds_at-clause-result_value : goal.returns-then-holds_at-clause-result_value
returns-then-holds_at-clause-result_value c =
    let met = sym c.if-holds_at.true ∙ c.holds_at.ensures in
    running_met c.loop-i.invariant.3 c.loop-i-test.false met

pub returns-then-holds_at-clause-result_value_2 : goal.returns-then-holds_at-clause-result_value_2
returns-then-holds_at-clause-result_value_2 c =
    let met = sym c.if-holds_at.true ∙ c.holds_at.ensures in
    running_met c.loop-i.invariant.4 c.loop-i-test.false met

pub returns-clause-result_value : goal.returns-clause-result_value
returns-clause-result_value c =
    let unmet = sym c.if-holds_at.false ∙ c.holds_at.ensures in
    let end : length c.args.list.now ≡ c.loop-i.i = omega (arith, c.loop-i.auto.i-end, c.loop-i-test.false) in
    ap (refused 10) end ∙ running_unmet c.loop-i.invariant.3 c.loop-i-test.false unmet

pub returns-clause-result_value_2 : goal.returns-clause-result_value_2
returns-clause-result_value_2 c =
    let unmet = sym c.if-holds_at.false ∙ c.holds_at.ensures in
    let end : length c.args.list.now ≡ c.loop-i.i = omega (arith, c.loop-i.auto.i-end, c.loop-i-test.false) in
    ap (refused 10) end ∙ running_unmet c.loop-i.invariant.4 c.loop-i-test.false unmet
