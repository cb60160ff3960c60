-- `probe_writer::action::put_actions` meets its contract: what is written and what is left are together the steps of all actions.
use Prim.Native.Nat.{ℕ, ◌+◌, ◌-◌}
use mathlib.Core.Path.{◌≡◌, sym, subst, ◌∙◌}
use mathlib.Core.List.{List}
use native.Mathlib.Omega.{arith}
use lib.ListN.{length, get_or, take, drop}
use Rattle.facts.specs.Fields.{write_each}
use Rattle.taskfile.specs.Row.{own_from}
use Rattle.taskfile.specs.MoveInPlaceLaws.{own_nodes}
use Rattle.probefile.specs.ProbeFile.{write_step}
use Rattle.compilation.specs.Compile.{action_steps}
use Rattle.taskfile.specs.PartsInPlace.{action_in, Stood}
use Rattle.facts.specs.WriteRowLaws.{Cut, going_inside, going_same, going_room, going_more, going_end}
use Rattle.probe_writer.specs.InPlaceLaws.{actions_from, actions_start, actions_cut, actions_none}
use Rattle.probe_writer.proofs.action.put_actions.Goals as goal
use Rattle.probe_writer.proofs.action.put_actions.Goals.{After-own_nodes-own}

-- the action's own nodes, as they are lent
abbrev lent : (c : goal.After-own_nodes-own) → List ℕ
lent c = let row = c.args.row.now in take (length row - c.own_nodes-own.result) (drop c.own_nodes-own.result row)

own : (c : goal.After-own_nodes-own) → lent c ≡ drop (own_from c.args.row.now c.loop-a.a) c.args.row.now
own c = own_nodes c.args.row.now (own_from c.args.row.now c.loop-a.a) c.own_nodes-own.ensures

-- what is left from action a on
abbrev left : (c : goal.After-own_nodes-own) → ℕ → List ℕ
left c a = let x = c.args in actions_from x.file.now x.sizes.now x.row.now x.count a

cut : (c : goal.After-own_nodes-own) → let x = c.args in let a = c.loop-a.a in Cut (left c a) (write_each write_step (action_steps (length x.sizes.now) a (action_in x.file.now x.sizes.now (get_or x.row.now a 0) (lent c)))) (left c (a + 1))
cut c = let x = c.args in actions_cut x.file.now x.sizes.now x.row.now x.count c.loop-a.a (own c) c.loop-a-test.true

pub loop-a-init : goal.loop-a-init
loop-a-init c = let x = c.args in actions_start x.file.now x.sizes.now x.row.now x.count x.out.now

pub put_action-at-requires-clause-stood : goal.put_action-at-requires-clause-stood
put_action-at-requires-clause-stood c =
    let x = c.args in
    let l = c.loop-a in
    let taken = c.loop-a-test.true in (
      subst (Stood x.file.now x.sizes.now (get_or x.row.now l.a 0)) (sym (own (goal.at.put_action-at-requires-clause-stood c).After-own_nodes-own)) (c.requires.by_index l.a taken),
      c.offset_at.ensures ∙ c.requires.sizes_len_bound.3.effect l.a taken,
      c.offset_at-in-loop-a.ensures ∙ c.requires.sizes_len_bound.3.incoming l.a taken,
      c.requires.sizes_len_bound.0,
      omega (arith, c.requires.sizes_len_bound.1, taken),
    )

pub put_action-at-requires-clause-nodes_in_bounds : goal.put_action-at-requires-clause-nodes_in_bounds
put_action-at-requires-clause-nodes_in_bounds c =
    let x = c.args in
    let l = c.loop-a in
    let taken = c.loop-a-test.true in
    going_room l.invariant c.requires.count_in_bounds (cut (goal.at.put_action-at-requires-clause-nodes_in_bounds c).After-own_nodes-own)

pub overflow_add-at : goal.overflow_add-at
overflow_add-at c =
    let fits = c.requires.count_in_bounds in
    let g = going_more c.loop-a.invariant fits (cut (goal.at.overflow_add-at c).After-own_nodes-own) c.put_action-at.ensures in
    omega (arith, going_inside g fits, going_same g fits, c.well_formed)

pub loop-a-preserved : goal.loop-a-preserved
loop-a-preserved c = going_more c.loop-a.invariant c.requires.count_in_bounds (cut (goal.at.loop-a-preserved c).After-own_nodes-own) c.put_action-at.ensures

pub returns : goal.returns
returns c =
    let x = c.args in
    going_end c.loop-a.invariant c.requires.count_in_bounds (actions_none x.file.now x.sizes.now x.row.now x.count c.loop-a.a (omega arith))
