-- `probe_writer::action::put_node` meets its contract: what is written and what is left are together all steps of the node.
use Prim.Native.Nat.{ℕ, ◌+◌, ◌≤◌, ◌<◌}
use mathlib.Core.Path.{refl, subst}
use mathlib.Core.List.{List}
use native.Mathlib.Omega.{arith}
use lib.ListN.{length, get_or}
use Rattle.facts.specs.Fields.{write_each}
use Rattle.probefile.specs.Probe.{Step}
use Rattle.probefile.specs.ProbeFile.{write_step}
use Rattle.compilation.specs.Compile.{map_from, edge_step}
use Rattle.compilation.specs.CompiledLengthLaws.{step_written}
use Rattle.taskfile.specs.PartsInPlace.{edge_in, edges_in}
use Rattle.facts.specs.WriteRowLaws.{Cut, going_inside, going_same, going_room, going_more, going_end}
use Rattle.probe_writer.specs.InPlaceLaws.{node_is, steps_from, steps_start, steps_cut, steps_none, wrote_node}
use Rattle.probe_writer.proofs.action.put_node.Goals as goal
use Rattle.probe_writer.proofs.action.put_node.Goals.{Start}

-- the variable that is tested, and how many values it has
abbrev var : goal.Start → ℕ
var c = get_or c.args.file.now c.args.node 0

abbrev values : goal.Start → ℕ
values c = get_or c.args.sizes.now (var c) 0

-- all steps, and the room for them
abbrev whole : goal.Start → List ℕ
whole c = write_each write_step (map_from (edge_step (length c.args.sizes.now) c.args.a c.args.i (var c)) 0 (edges_in c.args.file.now (c.args.node + 1) (values c)))

fits : (c : goal.Start) → length (whole c) ≤ length c.args.out.now
fits c =
    let a = c.args in
    subst (λ (bytes : List ℕ). length bytes ≤ length a.out.now) (node_is a.file.now a.sizes.now a.node (length a.sizes.now) a.a a.i refl refl) c.requires.node_in_bounds

-- what is left from value d on
abbrev left : goal.Start → ℕ → ℕ → List ℕ
left c d edge = let x = c.args in steps_from x.file.now (length x.sizes.now) x.a x.i (var c) (values c) d edge

-- the step of the edge for value d
abbrev step : goal.Start → ℕ → ℕ → Step
step c d edge = let x = c.args in edge_step (length x.sizes.now) x.a x.i (var c) d (edge_in x.file.now edge)

cut : (c : goal.Start) (d edge : ℕ) → d < values c → Cut (left c d edge) (write_step (step c d edge)) (left c (d + 1) (edge + 3))
cut c d edge h = let x = c.args in steps_cut x.file.now (length x.sizes.now) x.a x.i (var c) (values c) d edge h

pub loop-d-init : goal.loop-d-init
loop-d-init c = let a = c.args in (omega arith, steps_start a.file.now (length a.sizes.now) a.a a.i (var (goal.at.loop-d-init c).Start) (values (goal.at.loop-d-init c).Start) (a.node + 1) a.out.now)

pub put_edge-at-requires-clause-in_bounds : goal.put_edge-at-requires-clause-in_bounds
put_edge-at-requires-clause-in_bounds c =
    let l = c.loop-d in
    let room = going_room l.invariant.1 (fits (goal.at.put_edge-at-requires-clause-in_bounds c).Start) (cut (goal.at.put_edge-at-requires-clause-in_bounds c).Start l.d l.edge c.loop-d-test.true) in
    omega (arith, room, step_written (step (goal.at.put_edge-at-requires-clause-in_bounds c).Start l.d l.edge))

pub overflow_add-at : goal.overflow_add-at
overflow_add-at c =
    let l = c.loop-d in
    let g = going_more l.invariant.1 (fits (goal.at.overflow_add-at c).Start) (cut (goal.at.overflow_add-at c).Start l.d l.edge c.loop-d-test.true) c.put_edge-at.ensures in
    omega (arith, going_inside g (fits (goal.at.overflow_add-at c).Start), going_same g (fits (goal.at.overflow_add-at c).Start))

pub loop-d-preserved : goal.loop-d-preserved
loop-d-preserved c =
    let l = c.loop-d in
    (omega (arith, l.invariant.0), going_more l.invariant.1 (fits (goal.at.loop-d-preserved c).Start) (cut (goal.at.loop-d-preserved c).Start l.d l.edge c.loop-d-test.true) c.put_edge-at.ensures)

pub returns : goal.returns
returns c =
    let a = c.args in
    let l = c.loop-d in
    let n = length a.sizes.now in
    wrote_node a.file.now a.sizes.now a.node n a.a a.i refl refl
    (going_end l.invariant.1 (fits (goal.at.returns c).Start) (steps_none a.file.now n a.a a.i (var (goal.at.returns c).Start) (values (goal.at.returns c).Start) l.d l.edge (omega arith)))
