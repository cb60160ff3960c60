-- `numbering::number_steps` meets its contract: each start comes after the steps of the actions before it, and then the edges of its nodes.
use Prim.Native.Nat.{ℕ, ◌+◌, ◌-◌, ◌≤◌}
use mathlib.Core.Path.{◌≡◌, sym, ap, subst, ◌∙◌}
use mathlib.Core.List.{List}
use native.Mathlib.Omega.{arith}
use lib.ListN.{length, get_or, take, drop, length-take, length-drop, length-append}
use Rattle.std.proofs.Common.{set}
use borrow.Rule.Slice.PartMut.{put_mid}
use Rattle.facts.specs.Lists.{total, At}
use Rattle.taskfile.specs.Task.{Node, Action}
use Rattle.taskfile.specs.Row.{firsts_from, own_from}
use Rattle.taskfile.specs.WalkInPlace.{node_count}
use Rattle.taskfile.specs.PartsInPlace.{nodes_in, action_in, actions_in}
use Rattle.taskfile.specs.PartsInPlaceLaws.{nodes_long}
use Rattle.compilation.specs.Compile.{edge_count}
use Rattle.numbering.specs.InPlace.{Edges, Numbered}
use Rattle.numbering.specs.NumberLaws.{actions_long, actions_at, lent_nodes, lent_tested, row_long_lem, numbering_small, row_is, numbering_next, numbering_end}
use Rattle.numbering.proofs.number_steps.Goals as goal
use Rattle.numbering.proofs.number_steps.Goals.{After-node_count-count, After-offset_within-first, In-loop-a, Start}

-- the actions in place
abbrev actions : (c : goal.Start) → List Action
actions c = let x = c.args in actions_in x.file.now x.sizes.now x.row.now 0 x.actions

-- the action of this turn
abbrev action : (c : goal.In-loop-a) → Action
action c = let x = c.args in action_in x.file.now x.sizes.now (get_or x.row.now c.loop-a.a 0) (drop (own_from x.row.now c.loop-a.a) x.row.now)

element : (c : goal.In-loop-a) → At ((let x = c.args in actions_in x.file.now x.sizes.now x.row.now 0 x.actions)) c.loop-a.a (action c)
element c = let x = c.args in actions_at x.file.now x.sizes.now x.row.now c.loop-a.a x.actions c.loop-a-test.true

-- how many nodes it has
long : (c : goal.After-node_count-count) → length ((let x = c.args in action_in x.file.now x.sizes.now (get_or x.row.now c.loop-a.a 0) (drop (own_from x.row.now c.loop-a.a) x.row.now))).nodes ≡ c.node_count-count.result
long c =
    let x = c.args in
    nodes_long x.file.now x.sizes.now (drop (own_from x.row.now c.loop-a.a) x.row.now) 0 (node_count x.file.now (get_or x.row.now c.loop-a.a 0)) ∙ sym c.node_count-count.ensures

-- its nodes as they are lent
abbrev lent : (c : goal.After-node_count-count) → List Node
lent c = let x = c.args in let k = c.own_nodes-own.result in nodes_in x.file.now x.sizes.now (take (length x.row.now - k) (drop k x.row.now)) 0 c.node_count-count.result

lent-are : (c : goal.After-node_count-count) → lent c ≡ ((let x = c.args in action_in x.file.now x.sizes.now (get_or x.row.now c.loop-a.a 0) (drop (own_from x.row.now c.loop-a.a) x.row.now))).nodes
lent-are c = let x = c.args in lent_nodes x.file.now x.sizes.now x.row.now (get_or x.row.now c.loop-a.a 0) (own_from x.row.now c.loop-a.a) c.own_nodes-own.ensures c.node_count-count.ensures

-- where the numbers of their first edges go
place : (c : goal.After-offset_within-first) → (c.offset_within-first.result ≡ get_or c.args.row.now (firsts_from + c.loop-a.a) 0) × (c.offset_within-first.result + length ((let x = c.args in action_in x.file.now x.sizes.now (get_or x.row.now c.loop-a.a 0) (drop (own_from x.row.now c.loop-a.a) x.row.now))).nodes ≤ length c.loop-a.first_edge)
place c = row_is c.loop-a.invariant ((let x = c.args in actions_at x.file.now x.sizes.now x.row.now c.loop-a.a x.actions c.loop-a-test.true)) c.requires.rows.0 c.offset_within-first.ensures

pub bounds-row-a : goal.bounds-row-a
bounds-row-a c = let x = c.args in omega (arith, c.loop-a-test.true, c.requires.rows.0.long, actions_long x.file.now x.sizes.now x.row.now 0 x.actions)

pub overflow_add-next : goal.overflow_add-next
overflow_add-next c = omega (arith, numbering_small c.loop-a.invariant (element (goal.at.overflow_add-next c).In-loop-a) c.requires.rows.0)

pub number_edges-next-requires : goal.number_edges-next-requires
number_edges-next-requires c =
    let x = c.args in
    let l = c.loop-a in (
      omega (arith, (place (goal.at.number_edges-next-requires c).After-offset_within-first).1, long (goal.at.number_edges-next-requires c).After-node_count-count, row_long_lem l.first_edge c.offset_within-first.result),
      omega (arith, ap (total edge_count) (lent-are (goal.at.number_edges-next-requires c).After-node_count-count), numbering_small l.invariant (element (goal.at.number_edges-next-requires c).In-loop-a) c.requires.rows.0),
      lent_tested x.file.now x.row.now (get_or x.row.now l.a 0) (own_from x.row.now l.a) c.own_nodes-own.ensures c.node_count-count.ensures (c.requires.rows.1.own l.a c.loop-a-test.true),
    )

pub overflow_add-next-in-loop-a : goal.overflow_add-next-in-loop-a
overflow_add-next-in-loop-a c = omega (arith, c.number_edges-next.ensures.value, ap (total edge_count) (lent-are (goal.at.overflow_add-next-in-loop-a c).After-node_count-count), numbering_small c.loop-a.invariant (element (goal.at.overflow_add-next-in-loop-a c).In-loop-a) c.requires.rows.0)

long_again : (a : ℕ) (xs ys : List ℕ) → a ≤ length xs → length ys ≡ length (take (length xs - a) (drop a xs)) → length (put_mid a (length xs - a) xs ys) ≡ length xs
long_again a xs ys l e = let same : length ys ≡ length xs - a = simp (length-take, length-drop) at e ∙ omega arith in simp (length-append, length-take, length-drop) (omega arith)

pub loop-a-preserved : goal.loop-a-preserved
loop-a-preserved c =
    let l = c.loop-a in
    let same = lent-are (goal.at.loop-a-preserved c).After-node_count-count in
    let given = c.number_edges-next.auto.first_edge in
    let now-row = c.number_edges-next.new.first_edge in
    numbering_next l.invariant (element (goal.at.loop-a-preserved c).In-loop-a) c.requires.rows.0 (length l.first_edge - c.offset_within-first.result) now-row c.offset_within-first.ensures (omega (arith, c.loop-a-test.true, c.requires.actions_in_bounds)) (long_again c.offset_within-first.result l.first_edge now-row (omega (arith, (place (goal.at.loop-a-preserved c).After-offset_within-first).1)) given)
    (omega (arith, (place (goal.at.loop-a-preserved c).After-offset_within-first).1, given, row_long_lem l.first_edge c.offset_within-first.result)) (c.number_edges-next.ensures.value ∙ ap (λ (nodes : List Node). 1 + l.next + total edge_count nodes) same)
    (subst (λ (nodes : List Node). Edges nodes (1 + l.next) now-row) same c.number_edges-next.ensures.edges)

pub returns : goal.returns
returns c =
    let x = c.args in
    let l = c.loop-a in
    let last : l.a ≡ x.actions = omega arith in
    subst (λ (i : ℕ). Numbered (actions_in x.file.now x.sizes.now x.row.now 0 x.actions) x.row.now (set l.first_step i l.next) l.first_edge) last
    (numbering_end l.invariant (omega (arith, actions_long x.file.now x.sizes.now x.row.now 0 x.actions)) (omega (arith, c.requires.actions_in_bounds)))
