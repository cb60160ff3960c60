-- `task_dearest::dearest_in` meets its contract: the number, the buffer, and then the pass and the walk by the index.
use Prim.Native.Nat.{ℕ, ◌+◌, ◌-◌}
use mathlib.Core.Path.{◌≡◌, refl, sym, ap, ap₂, ◌∙◌}
use mathlib.Core.List.{List, ◌++◌}
use lib.ListN.{length, drop}
use lib.Seq.{length-take-le}
use native.Mathlib.Omega.{arith}
use Rattle.facts.specs.Read.{accepted}
use Rattle.facts.specs.Write.{over}
use Rattle.taskfile.specs.Row.{own_from}
use Rattle.taskfile.specs.MoveInPlaceLaws.{own_nodes}
use Rattle.taskfile.specs.AnswerLaws.{there}
use Rattle.taskfile.proofs.AnswerLaws.{starts, sizes_there}
use Rattle.carry.specs.AnswerLaws.{refused_in, short_in, wrote_in}
use Rattle.dearest.specs.FileLaws.{drawn_there, dearest_missing}
use Rattle.dearest.proofs.FileLaws.{dearest_wide, dearest_there}
use Rattle.task_dearest.proofs.dearest_in.Goals as goal
use Rattle.task_dearest.proofs.dearest_in.Goals.{Start}

-- the domain sizes are one for each variable
same : (c : goal.Start) → 1 + c.args.variables - 1 ≡ c.args.variables
same c = omega arith

pub returns-then-actions-action-clause-result_value : goal.returns-then-actions-action-clause-result_value
returns-then-actions-action-clause-result_value c = (refused_in c.args.out.now (dearest_missing c.args.file.now c.requires c.args.action c.if-actions-action.true)).0

pub returns-then-actions-action-clause-out_after : goal.returns-then-actions-action-clause-out_after
returns-then-actions-action-clause-out_after c = (refused_in c.args.out.now (dearest_missing c.args.file.now c.requires c.args.action c.if-actions-action.true)).1

pub returns-then-out-variables-clause-result_value : goal.returns-then-out-variables-clause-result_value
returns-then-out-variables-clause-result_value c =
    let f = c.args.file.now in
    let is = dearest_there f c.requires c.args.action c.if-actions-action.false refl refl refl in
    (short_in is c.args.out.now (sym (dearest_wide f c.requires c.args.action is)) c.if-out-variables.true).0

pub returns-then-out-variables-clause-out_after : goal.returns-then-out-variables-clause-out_after
returns-then-out-variables-clause-out_after c =
    let f = c.args.file.now in
    let is = dearest_there f c.requires c.args.action c.if-actions-action.false refl refl refl in
    (short_in is c.args.out.now (sym (dearest_wide f c.requires c.args.action is)) c.if-out-variables.true).1

pub slice_bounds-sizes-end : goal.slice_bounds-sizes-end
slice_bounds-sizes-end c = omega (arith, (starts _ c.requires).fits)

pub dearest_at-cost-requires : goal.dearest_at-cost-requires
dearest_at-cost-requires c =
    let f = c.args.file.now in
    let row = c.args.row.now in
    (drawn_there f c.requires c.args.action c.if-actions-action.false c.offset_at-at.ensures (sizes_there f c.requires (same (goal.at.dearest_at-cost-requires c).Start)) (own_nodes row (own_from row c.args.action) c.own_nodes-own.ensures), length-take-le _ _ c.if-out-variables.false ∙ sym (ap length (sizes_there f c.requires (same (goal.at.dearest_at-cost-requires c).Start)) ∙ (there f c.requires).variables))

pub returns-clause-result_value : goal.returns-clause-result_value
unfolding over
returns-clause-result_value c =
    let f = c.args.file.now in
    let row = c.args.row.now in
    let put = c.dearest_at-cost in
    let is =
    dearest_there f c.requires c.args.action c.if-actions-action.false c.offset_at-at.ensures (sizes_there f c.requires (same (goal.at.returns-clause-result_value c).Start)) (own_nodes row (own_from row c.args.action) c.own_nodes-own.ensures)
    ∙ ap₂ (λ (state : List ℕ) (most : ℕ). accepted (state, most)) (sym put.ensures.state_after) (sym put.ensures.value) in
    let wide = dearest_wide f c.requires c.args.action is in
    (wrote_in is (omega (arith, wide, c.if-out-variables.false)) (record { count = sym wide; buffer = ap (λ (n : ℕ). put.new.state ++ drop n c.args.out.now) (sym wide) })).0

pub returns-clause-out_after : goal.returns-clause-out_after
unfolding over
returns-clause-out_after c =
    let f = c.args.file.now in
    let row = c.args.row.now in
    let put = c.dearest_at-cost in
    let is =
    dearest_there f c.requires c.args.action c.if-actions-action.false c.offset_at-at.ensures (sizes_there f c.requires (same (goal.at.returns-clause-out_after c).Start)) (own_nodes row (own_from row c.args.action) c.own_nodes-own.ensures)
    ∙ ap₂ (λ (state : List ℕ) (most : ℕ). accepted (state, most)) (sym put.ensures.state_after) (sym put.ensures.value) in
    let wide = dearest_wide f c.requires c.args.action is in
    (wrote_in is (omega (arith, wide, c.if-out-variables.false)) (record { count = sym wide; buffer = ap (λ (n : ℕ). put.new.state ++ drop n c.args.out.now) (sym wide) })).1
