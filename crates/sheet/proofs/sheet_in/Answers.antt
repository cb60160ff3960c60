-- `sheet::sheet_in` meets its contract: a list that is too long, the run, and then the sheet by the costs that were noted.
use Prim.Native.Nat.{◌≤◌}
use mathlib.Core.Path.{refl, sym, ap, ◌∙◌}
use lib.ListN.{length, take, replicate}
use lib.Seq.{length-take-le}
use Rattle.facts.specs.BytesLaws.{bytes_each}
use Rattle.facts.specs.AnswerLaws.{handed}
use Rattle.taskfile.specs.Task.{max_list}
use Rattle.taskfile.specs.AnswerLaws.{Starts}
use Rattle.taskfile.proofs.AnswerLaws.{starts}
use Rattle.taskfile.specs.MoveInPlaceLaws.{run_long}
use Rattle.carry.specs.CarryFile.{answer_in, buffer_in}
use Rattle.carry.specs.AnswerLaws.{refused_in}
use Rattle.sheet.specs.FileLaws.{place_refused, Noted, place_noted}
use native.Mathlib.Omega.{arith}
use Rattle.sheet.proofs.sheet_in.Goals as goal
use Rattle.sheet.proofs.sheet_in.Goals.{After-initial-state, In_ok-sum, Start}

begins : (c : goal.Start) → Starts c.args.file.now c.requires
begins c = starts c.args.file.now c.requires

-- the state has a value for each variable
long : (c : goal.After-initial-state) → c.args.variables ≤ length c.initial-state.result
long c = omega (arith, c.initial-state.ensures.1, (starts c.args.file.now c.requires).variables)

-- what was noted of a plan
noted : (c : goal.In_ok-sum) → Noted c.args.file.now c.requires c.args.list.now c.initial-state.ensures.0 c.in_ok-sum.ensures.result_value (take (length c.args.list.now) c.note_costs.new.costs) c.in_ok-sum.sum
noted c =
    let f = c.args.file.now in
    place_noted f c.requires c.args.list.now c.initial-state.ensures.0 c.in_ok-sum.ensures.result_value (bytes_each f (λ i. (c.type_inv.file i).fits)) refl (replicate max_list 0) c.in_ok-sum.ensures.costs_after

pub returns-then-n-gt-MAX_LIST-clause-result_value : goal.returns-then-n-gt-MAX_LIST-clause-result_value
returns-then-n-gt-MAX_LIST-clause-result_value c =
    let f = c.args.file.now in
    (refused_in c.args.out.now (place_refused f c.requires c.args.list.now refl refl (sym (run_long _ _ _ _ _ c.if-n-gt-MAX_LIST.true)))).0

pub returns-then-n-gt-MAX_LIST-clause-out_after : goal.returns-then-n-gt-MAX_LIST-clause-out_after
returns-then-n-gt-MAX_LIST-clause-out_after c =
    let f = c.args.file.now in
    (refused_in c.args.out.now (place_refused f c.requires c.args.list.now refl refl (sym (run_long _ _ _ _ _ c.if-n-gt-MAX_LIST.true)))).1

pub initial-state-requires : goal.initial-state-requires
initial-state-requires c = let b = begins (goal.at.initial-state-requires c).Start in (b.variables, b.fits)

pub slice_bounds-state-end : goal.slice_bounds-state-end
slice_bounds-state-end c = long c

pub slice_bounds-note_costs-end : goal.slice_bounds-note_costs-end
slice_bounds-note_costs-end c = sym (length-take-le _ _ (long (goal.at.slice_bounds-note_costs-end c).After-initial-state))

pub returns-in_err-sum-clause-result_value : goal.returns-in_err-sum-clause-result_value
returns-in_err-sum-clause-result_value c =
    handed _ _ c.from_residual.ensures.1 ∙ (refused_in c.args.out.now (place_refused c.args.file.now c.requires c.args.list.now c.initial-state.ensures.0 c.in_err-sum.ensures.result_value refl)).0

pub returns-in_err-sum-clause-out_after : goal.returns-in_err-sum-clause-out_after
returns-in_err-sum-clause-out_after c = (refused_in c.args.out.now (place_refused c.args.file.now c.requires c.args.list.now c.initial-state.ensures.0 c.in_err-sum.ensures.result_value refl)).1

pub put_sheet-requires-clause-all : goal.put_sheet-requires-clause-all
put_sheet-requires-clause-all c = (noted (goal.at.put_sheet-requires-clause-all c).In_ok-sum).all

pub put_sheet-requires-clause-narrow : goal.put_sheet-requires-clause-narrow
put_sheet-requires-clause-narrow c = (noted (goal.at.put_sheet-requires-clause-narrow c).In_ok-sum).narrow

pub put_sheet-requires-clause-small : goal.put_sheet-requires-clause-small
put_sheet-requires-clause-small c = (noted (goal.at.put_sheet-requires-clause-small c).In_ok-sum).sum

pub returns-clause-result_value : goal.returns-clause-result_value
returns-clause-result_value c = c.put_sheet.ensures.result_value ∙ ap (answer_in (length c.args.out.now)) (sym (noted (goal.at.returns-clause-result_value c).In_ok-sum).text)

pub returns-clause-out_after : goal.returns-clause-out_after
returns-clause-out_after c = c.put_sheet.ensures.out_after ∙ ap (buffer_in c.args.out.now) (sym (noted (goal.at.returns-clause-out_after c).In_ok-sum).text)
