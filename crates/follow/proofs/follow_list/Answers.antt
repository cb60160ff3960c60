-- `follow::follow_list` meets its contract: the entries passed come from the actions noted, which lead to the state here.
use Prim.Native.Nat.{ℕ, ◌-◌, ◌<◌}
use mathlib.Core.Path.{◌≡◌, refl, sym, subst, ◌∙◌}
use mathlib.Core.List.{List}
use native.Mathlib.Omega.{arith}
use lib.ListN.{length, get_or, take, drop}
use Rattle.taskfile.specs.Row.{own_from}
use Rattle.taskfile.specs.MoveInPlaceLaws.{own_nodes}
use Rattle.taskfile.specs.WalkInPlace.{node_count}
use Rattle.taskfile.specs.PartsInPlace.{actions_in, Tested}
use Rattle.plans.specs.Carry.{first_step_of}
use Rattle.numbering.specs.NumberLaws.{actions_long}
use Rattle.follow.specs.FollowLaws.{noted_start, walkable_there, following_start, following_next, following_end}
use Rattle.follow.proofs.follow_list.Goals as goal
use Rattle.follow.proofs.follow_list.Goals.{After-own_nodes-own}

-- the entry is the start of the action with the number that was noted
starts : (c : goal.After-own_nodes-own) → let x = c.args in let a = c.in_ok-number.number in
    (a < x.actions) × (get_or x.list.now c.loop-i.i 0 ≡ first_step_of (actions_in x.file.now x.sizes.now x.row.now 0 x.actions) a)
starts c =
    let x = c.args in
    let start = c.in_ok-number.ensures in
    let n = noted_start c.requires.followable.noted (c.from.ensures ∙ c.byte_at.ensures) (λ none. omega (arith, none, start.0)) in
    rw start.1 (omega (arith, n.0, actions_long x.file.now x.sizes.now x.row.now 0 x.actions), n.1)

-- the action's own nodes, as they are lent
abbrev lent : List ℕ → ℕ → List ℕ
lent row first = take (length row - first) (drop first row)

own : (c : goal.After-own_nodes-own) → let row = c.args.row.now in lent row c.own_nodes-own.result ≡ drop (own_from row c.in_ok-number.number) row
own c = let row = c.args.row.now in own_nodes row (own_from row c.in_ok-number.number) c.own_nodes-own.ensures

pub loop-i-init : goal.loop-i-init
loop-i-init c = following_start c.args.state.now c.args.plan.now c.requires.inside

pub bounds-row-number : goal.bounds-row-number
bounds-row-number c = omega (arith, (starts (goal.at.bounds-row-number c).After-own_nodes-own).0, c.requires.followable.long)

pub of-requires : goal.of-requires
of-requires c = omega (arith, (starts (goal.at.of-requires c).After-own_nodes-own).0, c.requires.actions_bound)

pub follow_action-requires-clause-walkable : goal.follow_action-requires-clause-walkable
follow_action-requires-clause-walkable c =
    let before = (goal.at.follow_action-requires-clause-walkable c).After-own_nodes-own in
    walkable_there c.requires.followable c.loop-i.invariant.inside (starts before).0 (own before) c.of.ensures.edges c.of.ensures.next (starts before).1

pub follow_action-requires-clause-tested : goal.follow_action-requires-clause-tested
follow_action-requires-clause-tested c =
    let f = c.args.file.now in
    let row = c.args.row.now in
    let a = c.in_ok-number.number in
    let before = (goal.at.follow_action-requires-clause-tested c).After-own_nodes-own in
    subst (λ (z : List ℕ). Tested f z (node_count f (get_or row a 0))) (sym (own before)) (c.requires.followable.tested.own a (starts before).0)

pub loop-i-preserved : goal.loop-i-preserved
loop-i-preserved c =
    let before = (goal.at.loop-i-preserved c).After-own_nodes-own in
    let s = starts before in
    let l = c.loop-i in
    following_next l.invariant s.0 (own before) c.loop-i-test.true s.1 (c.requires.followable.well_formed c.in_ok-number.number s.0) (omega (arith, c.if-plan-count.false, l.invariant.same)) c.in_ok-end.ensures

pub returns-then-holds_at : goal.returns-then-holds_at
returns-then-holds_at c = following_end c.loop-i.invariant refl c.loop-i-test.false (sym c.if-holds_at.true ∙ c.holds_at.ensures)
