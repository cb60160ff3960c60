-- `expansion::path::put_path` meets its contract: what is written and what is left are together the action's entries, and so are what is paid and what is left to pay.
use mathlib.Core.Path.{◌≡◌, refl, ◌∙◌}
use Prim.Native.Nat.{◌+◌, ◌*◌, ◌<◌}
use native.Mathlib.Omega.{arith}
use lib.ListN.{length, get_or, set, length-set}
use Rattle.facts.specs.WriteRowLaws.{going_same}
use Rattle.numbering.specs.ActionLaws.{Visited, visited, edge_paid, passing_start, passing_small, passing_room, passing_next, passing_paid, last_room, last_wrote, wrote_first}
use Rattle.probefile.specs.Probe.{max_steps}
use Rattle.expansion.proofs.path.put_path.Goals as goal
use Rattle.expansion.proofs.path.put_path.Goals.{After-edge_for-edge, After-loop-k, After-offset_at-in-loop-k, Start}

-- the start is written before the loop, and the buffer is as long as it was
long : (c : goal.Start) → length (set c.args.out.now 0 c.args.steps.first) ≡ length c.args.out.now
long c = length-set c.args.out.now 0 c.args.steps.first

-- the node of this turn, and the state's value there
here : (c : goal.After-edge_for-edge) → let a = c.args in Visited a.file.now a.sizes.now a.nodes.now a.count a.state.now c.loop-k.k c.offset_at-node.result c.byte_at-value.result c.edge_for-edge.result.target
here c =
    let a = c.args in
    visited a.file.now a.sizes.now a.nodes.now a.count c.requires.1 c.requires.2 c.loop-k.invariant.low c.loop-k-test.true c.offset_at-node.ensures c.offset_at.ensures c.byte_at-value.ensures c.edge_for-edge.ensures.0

-- the same before its edge is read
there : (c : goal.After-offset_at-in-loop-k) → let a = c.args in Visited a.file.now a.sizes.now a.nodes.now a.count a.state.now c.loop-k.k c.offset_at-node.result c.byte_at-value.result (get_or a.file.now (c.offset_at-node.result + (1 + 3 * c.byte_at-value.result)) 0)
there c =
    let a = c.args in
    visited a.file.now a.sizes.now a.nodes.now a.count c.requires.1 c.requires.2 c.loop-k.invariant.low c.loop-k-test.true c.offset_at-node.ensures c.offset_at.ensures c.byte_at-value.ensures refl

-- its edge has a number below that of the end, and there is room for it
small : (c : goal.After-offset_at-in-loop-k) → c.offset_at-in-loop-k.result + c.byte_at-value.result < max_steps
small c =
    let a = c.args in
    omega (arith, passing_small a.file.now a.sizes.now a.nodes.now a.count c.requires.1 c.loop-k.invariant ((length-set c.args.out.now 0 c.args.steps.first)) (there c) c.offset_at-in-loop-k.ensures, c.requires.1.few)

room : (c : goal.After-offset_at-in-loop-k) → c.loop-k.written < length c.loop-k.out
room c =
    let a = c.args in
    passing_room a.file.now a.sizes.now a.nodes.now a.count c.requires.1 c.loop-k.invariant ((length-set c.args.out.now 0 c.args.steps.first)) (there c) c.offset_at-in-loop-k.ensures

-- there is room for the end
end-room : (c : goal.After-loop-k) → c.loop-k.written < length c.loop-k.out
end-room c =
    let a = c.args in
    last_room a.file.now a.sizes.now a.nodes.now a.count c.requires.1 c.loop-k.invariant ((length-set c.args.out.now 0 c.args.steps.first)) c.loop-k-test.false

-- the buffer is as long as it was
same : (c : goal.After-loop-k) → length c.loop-k.out ≡ length c.args.out.now
same c = going_same c.loop-k.invariant.going (omega (arith, c.requires.1.fits, (length-set c.args.out.now 0 c.args.steps.first))) ∙ (length-set c.args.out.now 0 c.args.steps.first)

same-now : (c : goal.After-offset_at-in-loop-k) → length c.loop-k.out ≡ length c.args.out.now
same-now c = going_same c.loop-k.invariant.going (omega (arith, c.requires.1.fits, (length-set c.args.out.now 0 c.args.steps.first))) ∙ (length-set c.args.out.now 0 c.args.steps.first)

pub loop-k-init : goal.loop-k-init
loop-k-init c = let a = c.args in passing_start a.file.now a.sizes.now a.nodes.now a.count c.requires.1 a.out.now refl

pub overflow_add-out : goal.overflow_add-out
overflow_add-out c = omega (arith, small c)

pub overflow_cast-out-in-loop-k-2 : goal.overflow_cast-out-in-loop-k-2
overflow_cast-out-in-loop-k-2 c = omega (arith, small c)

pub offset_bounds-out-written : goal.offset_bounds-out-written
offset_bounds-out-written c = omega (arith, room c, same-now c)

pub bounds-out-written : goal.bounds-out-written
bounds-out-written c = room c

pub overflow_add-written : goal.overflow_add-written
overflow_add-written c = omega (arith, room c, same-now c)

pub loop-k-smaller : goal.loop-k-smaller
loop-k-smaller c = omega (arith, (here (goal.at.loop-k-smaller c).After-edge_for-edge).above, c.loop-k-test.true)

pub loop-k-preserved : goal.loop-k-preserved
loop-k-preserved c =
    let a = c.args in
    let e = c.edge_for-edge.ensures in
    let v = here (goal.at.loop-k-preserved c).After-edge_for-edge in
    let paid = edge_paid a.file.now a.nodes.now a.count a.state.now c.loop-k.k c.loop-k-test.true c.offset_at-node.ensures c.offset_at.ensures c.byte_at-value.ensures e.0 e.1 v.above in
    passing_next a.file.now a.sizes.now a.nodes.now a.count c.requires.1 c.loop-k.invariant (long (goal.at.loop-k-preserved c).Start) v c.offset_at-in-loop-k.ensures paid e.2

pub offset_bounds-out-written-2 : goal.offset_bounds-out-written-2
offset_bounds-out-written-2 c = omega (arith, end-room c, same c)

pub bounds-out-written-2 : goal.bounds-out-written-2
bounds-out-written-2 c = end-room c

pub overflow_add-result : goal.overflow_add-result
overflow_add-result c = omega (arith, end-room c, same c)

pub returns-clause-wrote : goal.returns-clause-wrote
returns-clause-wrote c =
    let a = c.args in
    let inv = c.loop-k.invariant in
    wrote_first (last_wrote a.file.now a.sizes.now a.nodes.now a.count c.requires.1 inv (long (goal.at.returns-clause-wrote c).Start) c.loop-k-test.false)

pub returns-clause-cost_value : goal.returns-clause-cost_value
returns-clause-cost_value c =
    let a = c.args in
    let inv = c.loop-k.invariant in
    (passing_paid a.file.now a.sizes.now a.nodes.now a.count c.requires.1 inv (long (goal.at.returns-clause-cost_value c).Start) c.loop-k-test.false, omega (arith, inv.cost_few, inv.high, c.requires.0))
