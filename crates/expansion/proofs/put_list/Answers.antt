-- `expansion::put_list` meets its contract: what is left of the list answers, from the state here, what the whole answers, and what is written and what is left are together the entries of
-- all actions.
use Prim.Native.Nat.{ℕ, ◌+◌, ◌*◌, ◌-◌, ◌≤◌}
use mathlib.Core.Path.{◌≡◌, refl, sym, ap, ◌∙◌}
use mathlib.Core.List.{List}
use native.Mathlib.Omega.{arith}
use lib.ListN.{length, get_or, take, drop}
use borrow.Rule.Slice.PartMut.{put_mid}
use Rattle.facts.specs.Read.{refused}
use Rattle.expansion.specs.declared.path.Path.{Path}
use Rattle.facts.specs.Answers.{move_of}
use Rattle.std.specs.Prelude.{Option, option_map}
use Rattle.taskfile.specs.Task.{Action, max_entries, max_list}
use Rattle.taskfile.specs.Row.{own_from}
use Rattle.taskfile.specs.WalkInPlace.{move_at}
use Rattle.taskfile.specs.MoveInPlaceLaws.{own_nodes, moves, run_starts, running_missing, running_blocked, running_next, running_met, running_unmet}
use Rattle.taskfile.specs.PartsInPlace.{actions_in}
use Rattle.facts.specs.WriteRowLaws.{Going, going_start, going_inside, going_room, going_end}
use Rattle.plans.specs.Carry.{expand_from}
use Rattle.numbering.specs.ExpandLaws.{list_room, going_few, Entry, entry_there, entry_writable, entry_inside, entry_next, entries_none}
use Rattle.expansion.proofs.put_list.Goals as goal
use Rattle.expansion.proofs.put_list.Goals.{After-of, After-put_action-put, At-loop-i, In-Some, Start}

-- the actions in place
abbrev actions : (c : goal.Start) → List Action
actions c = let x = c.args in actions_in x.file.now x.sizes.now x.row.now 0 x.actions

-- there is room for all entries
fits : (c : goal.Start) → length (expand_from (actions c) c.args.list.now c.args.state.now) ≤ length c.args.out.now
fits c = list_room c.requires.prepared c.args.list.now c.args.state.now c.requires.inside c.requires.room

-- they are not many
few : (c : goal.Start) → length (expand_from (actions c) c.args.list.now c.args.state.now) ≤ max_entries * max_list
few c = list_room c.requires.prepared c.args.list.now c.args.state.now c.requires.inside (omega (arith, c.requires.few))

-- the action's own nodes and their first edges, as they are lent
abbrev lent : List ℕ → ℕ → List ℕ
lent row k = take (length row - k) (drop k row)

-- the number of the action of this turn, and the action
abbrev number : (c : goal.At-loop-i) → ℕ
number c = get_or c.args.list.now c.loop-i.i 0

entry : (c : goal.After-of) → let x = c.args in let l = c.loop-i in
    Entry x.file.now x.sizes.now x.actions x.row.now x.list.now l.state l.i (get_or x.row.now (get_or x.list.now l.i 0) 0)
    (lent x.row.now c.own_nodes-own.result) c.of.result.edges.now c.of.result.first c.of.result.next
entry c =
    let x = c.args in
    let own = own_nodes x.row.now (own_from x.row.now (get_or x.list.now c.loop-i.i 0)) c.own_nodes-own.ensures in
    entry_there c.requires.prepared c.loop-i.state c.loop-i-test.true c.if-actions-number.false refl own c.of.ensures.edges c.of.ensures.first c.of.ensures.next

-- the state after it, and what it did
abbrev after : (c : goal.After-put_action-put) → List ℕ
after c = c.put_action-put.new.state

-- what it did, as an answer
abbrev paid : Option Path → Option ℕ
paid = option_map (λ (path : Path). path.cost)

did : (c : goal.After-put_action-put) → let x = c.args in move_of (paid c.put_action-put.result) (after c) ≡ move_at x.file.now x.row.now (get_or x.list.now c.loop-i.i 0) c.loop-i.state
did c = let x = c.args in moves x.file.now x.row.now (get_or x.list.now c.loop-i.i 0) c.loop-i.state (λ w. w.cost) refl c.own_nodes-own.ensures c.put_action-put.ensures.state_after

-- once it applied its entries are written
going : (c : goal.In-Some) → let x = c.args in let l = c.loop-i in
    Entry x.file.now x.sizes.now x.actions x.row.now x.list.now l.state l.i (get_or x.row.now (get_or x.list.now l.i 0) 0) (lent x.row.now c.own_nodes-own.result) c.of.result.edges.now c.of.result.first c.of.result.next
    → Going (expand_from (actions_in x.file.now x.sizes.now x.row.now 0 x.actions) x.list.now x.state.now) (expand_from (actions_in x.file.now x.sizes.now x.row.now 0 x.actions) (drop (l.i + 1) x.list.now) c.put_action-put.new.state) x.out.now
    (put_mid l.written (length l.out - l.written) l.out c.put_action-put.new.out) (l.written + c.in-Some.path.written)
going c e =
    let x = c.args in
    let room = list_room c.requires.prepared x.list.now x.state.now c.requires.inside c.requires.room in
    entry_next e c.in-Some.ensures.state_after c.loop-i.invariant.3 room c.in-Some.ensures.wrote

pub loop-i-init : goal.loop-i-init
loop-i-init c = (c.requires.inside, omega arith, run_starts _ _ _ _ _ c.requires.few, going_start (expand_from (actions (goal.at.loop-i-init c).Start) c.args.list.now c.args.state.now) c.args.out.now)

pub returns-then-actions-number : goal.returns-then-actions-number
returns-then-actions-number c = running_missing c.loop-i.invariant.2 c.loop-i-test.true c.if-actions-number.true

pub offset_bounds-out-written : goal.offset_bounds-out-written
offset_bounds-out-written c = omega (arith, going_few c.loop-i.invariant.3, few (goal.at.offset_bounds-out-written c).Start)

pub slice_bounds-put_action-count-in-loop-i : goal.slice_bounds-put_action-count-in-loop-i
slice_bounds-put_action-count-in-loop-i c = going_inside c.loop-i.invariant.3 (fits (goal.at.slice_bounds-put_action-count-in-loop-i c).Start)

pub slice_bounds-put_action-start-in-loop-i : goal.slice_bounds-put_action-start-in-loop-i
slice_bounds-put_action-start-in-loop-i c = going_inside c.loop-i.invariant.3 (fits (goal.at.slice_bounds-put_action-start-in-loop-i c).Start)

pub put_action-put-requires-clause-writable : goal.put_action-put-requires-clause-writable
put_action-put-requires-clause-writable c =
    let e = entry (goal.at.put_action-put-requires-clause-writable c).After-of in
    let inv = c.loop-i.invariant in
    (entry_writable e inv.0 (going_room inv.3 (fits (goal.at.put_action-put-requires-clause-writable c).Start) e.cut), e.tested)

pub returns-in_default : goal.returns-in_default
returns-in_default c = running_blocked c.loop-i.invariant.2 c.loop-i-test.true c.if-actions-number.false (ap (λ (r : Option Path). move_of (paid r) (after (goal.at.returns-in_default c).After-put_action-put)) (sym c.in_default.is) ∙ did (goal.at.returns-in_default c).After-put_action-put)

pub overflow_add-written : goal.overflow_add-written
overflow_add-written c = omega (arith, going_few (going (goal.at.overflow_add-written c).In-Some (entry (goal.at.overflow_add-written c).After-of)), few (goal.at.overflow_add-written c).Start)

pub loop-i-preserved : goal.loop-i-preserved
loop-i-preserved c =
    let l = c.loop-i in
    let moved = ap (λ (r : Option Path). move_of (paid r) (after (goal.at.loop-i-preserved c).After-put_action-put)) (sym c.in-Some.is) ∙ did (goal.at.loop-i-preserved c).After-put_action-put in (
      entry_inside (entry (goal.at.loop-i-preserved c).After-of) c.in-Some.ensures.state_after l.invariant.0,
      omega (arith, c.in-Some.ensures.cost_most, l.invariant.1),
      running_next l.invariant.2 c.loop-i-test.true c.if-actions-number.false moved,
      going (goal.at.loop-i-preserved c).In-Some (entry (goal.at.loop-i-preserved c).After-of),
    )

pub returns-then-holds_at : goal.returns-then-holds_at
returns-then-holds_at c =
    let inv = c.loop-i.invariant in
    (running_met inv.2 c.loop-i-test.false (sym c.if-holds_at.true ∙ c.holds_at.ensures), going_end inv.3 (fits (goal.at.returns-then-holds_at c).Start) (entries_none (actions (goal.at.returns-then-holds_at c).Start) c.args.list.now c.loop-i.state c.loop-i-test.false))

pub returns : goal.returns
returns c =
    let end : length c.args.list.now ≡ c.loop-i.i = omega arith in
    ap (refused 10) end ∙ running_unmet c.loop-i.invariant.2 c.loop-i-test.false (sym c.if-holds_at.false ∙ c.holds_at.ensures)
