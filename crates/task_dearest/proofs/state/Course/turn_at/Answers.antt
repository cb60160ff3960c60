-- `turn_at` meets its contract: the terminal, a node that tests another variable, and one that tests this one.
use Prim.Native.Nat.{ℕ, suc, ◌-◌, ◌≤◌, ◌<◌}
use mathlib.Core.Path.{◌≡◌, refl, subst}
use native.Mathlib.Omega.{arith}
use lib.ListN.{get_or}
use Rattle.taskfile.specs.WalkInPlace.{node_count}
use Rattle.dearest.specs.InPlace.{Edges}
use Rattle.dearest.specs.InPlaceLaws.{edges_there, turn_other, turn_below, turn_value, turn_next, turn_up, turn_terminal}
use Rattle.task_dearest.proofs.state.Course.turn_at.Goals as goal
use Rattle.task_dearest.proofs.state.Course.turn_at.Goals.{After-first_costing-value, Else-self-node, Start}

-- node k is one of the action's
below : (c : goal.Start) → c.args.k ≤ c.args.self.now.count → c.args.k - 1 < node_count c.args.self.now.file.now c.args.self.now.at
below c l = omega (arith, l, c.requires.ready.count_is, c.requires.number.0)

up : (c : goal.Start) → c.args.k ≡ suc (c.args.k - 1)
up c = omega (arith, c.requires.number.0)

-- the value is one of the variable's
value-below : (c : goal.After-first_costing-value) → c.first_costing-value.result < get_or c.args.self.now.sizes.now c.args.v 0
value-below c =
    turn_below c.requires.ready.drawn (omega (arith, c.if-self-k.false, c.requires.ready.count_is, c.requires.number.0)) c.offset_at-node.ensures (omega (arith, c.requires.number.0)) c.if-self-node.false refl c.requires.ready.full c.first_costing-value.ensures

-- its edges lie inside the file
edges : (c : goal.Else-self-node) → Edges c.args.self.now.file.now c.offset_at-node.result (get_or c.args.self.now.sizes.now c.args.v 0)
edges c =
    subst (λ (v : ℕ). Edges c.args.self.now.file.now c.offset_at-node.result (get_or c.args.self.now.sizes.now v 0)) c.if-self-node.false
    (edges_there c.requires.ready.drawn (omega (arith, c.if-self-k.false, c.requires.ready.count_is, c.requires.number.0)) c.offset_at-node.ensures)

pub returns-then-self-k-clause-value_value : goal.returns-then-self-k-clause-value_value
returns-then-self-k-clause-value_value c =
    let t = turn_terminal c.requires.ready.drawn {k = c.args.k} (get_or c.args.self.now.sizes.now c.args.v 0) (omega (arith, c.if-self-k.true, c.requires.ready.count_is, c.requires.number.1)) c.requires.variable in
    t.0

pub returns-then-self-k-clause-next_value : goal.returns-then-self-k-clause-next_value
returns-then-self-k-clause-next_value c =
    let t = turn_terminal c.requires.ready.drawn {k = c.args.k} (get_or c.args.self.now.sizes.now c.args.v 0) (omega (arith, c.if-self-k.true, c.requires.ready.count_is, c.requires.number.1)) c.requires.variable in
    t.1

pub returns-then-self-node-clause-value_value : goal.returns-then-self-node-clause-value_value
returns-then-self-node-clause-value_value c =
    let t = turn_other c.requires.ready.drawn (below (goal.at.returns-then-self-node-clause-value_value c).Start (omega (arith, c.if-self-k.false))) c.offset_at-node.ensures (up (goal.at.returns-then-self-node-clause-value_value c).Start) (get_or c.args.self.now.sizes.now c.args.v 0) c.if-self-node.true in
    t.0

pub returns-then-self-node-clause-next_value : goal.returns-then-self-node-clause-next_value
returns-then-self-node-clause-next_value c =
    let t = turn_other c.requires.ready.drawn (below (goal.at.returns-then-self-node-clause-next_value c).Start (omega (arith, c.if-self-k.false))) c.offset_at-node.ensures (up (goal.at.returns-then-self-node-clause-next_value c).Start) (get_or c.args.self.now.sizes.now c.args.v 0) c.if-self-node.true in
    t.1

pub first_costing-value-requires : goal.first_costing-value-requires
first_costing-value-requires c = (edges (goal.at.first_costing-value-requires c).Else-self-node, c.requires.ready.low)

pub overflow_add-result-2 : goal.overflow_add-result-2
overflow_add-result-2 c = omega (arith, value-below c, (edges (goal.at.overflow_add-result-2 c).Else-self-node).fits)

pub bounds-self-node-2 : goal.bounds-self-node-2
bounds-self-node-2 c = omega (arith, value-below (goal.at.bounds-self-node-2 c).After-first_costing-value, (edges (goal.at.bounds-self-node-2 c).Else-self-node).fits)

pub returns-clause-value_value : goal.returns-clause-value_value
returns-clause-value_value c =
    let l = below (goal.at.returns-clause-value_value c).Start (omega (arith, c.if-self-k.false)) in
    let n = c.offset_at-node.ensures in
    let tested = c.if-self-node.false in
    let value = c.first_costing-value.ensures in
    turn_value c.requires.ready.drawn l n (up (goal.at.returns-clause-value_value c).Start) tested refl c.requires.ready.full value

pub returns-clause-next_value : goal.returns-clause-next_value
returns-clause-next_value c =
    let l = below (goal.at.returns-clause-next_value c).Start (omega (arith, c.if-self-k.false)) in
    let n = c.offset_at-node.ensures in
    let tested = c.if-self-node.false in
    let value = c.first_costing-value.ensures in
    turn_next c.requires.ready.drawn l n (up (goal.at.returns-clause-next_value c).Start) tested refl c.requires.ready.full value

pub returns-clause-le_next : goal.returns-clause-le_next
returns-clause-le_next c =
    let l = below (goal.at.returns-clause-le_next c).Start (omega (arith, c.if-self-k.false)) in
    let n = c.offset_at-node.ensures in
    let tested = c.if-self-node.false in
    let value = c.first_costing-value.ensures in
    let u = turn_up c.requires.ready.drawn l n (up (goal.at.returns-clause-le_next c).Start) tested refl c.requires.ready.full value in
    (u.0, omega (arith, u.1, c.requires.ready.count_is))
