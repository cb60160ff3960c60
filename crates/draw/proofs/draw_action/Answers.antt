-- `draw::draw_action` meets its contract: the index, the number, and then the diagram.
use mathlib.Core.Path.{refl, sym, ap, ◌∙◌}
use Rattle.std.proofs.Common.{ℕ, ◌≡◌, ◌≤◌, ◌+◌, ◌<◌}
use mathlib.Core.List.{List}
use lib.ListN.{length}
use Rattle.facts.specs.AnswerLaws.{handed}
use Rattle.facts.specs.BytesLaws.{bytes_each}
use Rattle.facts.specs.Read.{accepted, refused}
use Rattle.facts.specs.Write.{length_in, written_in}
use Rattle.facts.specs.WriteLaws.{refused_in}
use Rattle.taskfile.specs.Blank.{blank_head, or_else, file_of}
use Rattle.taskfile.specs.Index.{Ready}
use Rattle.taskfile.specs.TaskIndexLaws.{index_file, index_ready, index_refused}
use Rattle.text.specs.Append.{largest}
use Rattle.words.specs.DescribeFile.{drawn_action}
use Rattle.words.specs.DescribeLaws.{head_fits, action_refused, action_missing, action_is}
use Rattle.words.specs.Rows.{drawing}
use Rattle.words.proofs.LengthLaws.{drawn_action_most}
use native.Mathlib.Omega.{arith}
use Rattle.draw.proofs.draw_action.Goals.{In_ok-variables}
use Rattle.draw.proofs.draw_action.Goals as goal

pub returns-in_err-variables-clause-result_value : goal.returns-in_err-variables-clause-result_value
returns-in_err-variables-clause-result_value c =
    handed _ _ c.from_residual.ensures.1 ∙ (refused_in c.args.out.now (action_refused c.args.file.now c.args.action (index_refused _ (sym c.in_err-variables.ensures.result_value)))).0

pub returns-in_err-variables-clause-out_after : goal.returns-in_err-variables-clause-out_after
returns-in_err-variables-clause-out_after c = (refused_in c.args.out.now (action_refused c.args.file.now c.args.action (index_refused _ (sym c.in_err-variables.ensures.result_value)))).1

-- the row has the index of the file's task in these bytes
module _ (c : goal.In_ok-variables) {bytes : List ℕ} (e : bytes ≡ or_else c.args.file.now blank_head) where
  file : drawn_action c.args.file.now c.args.action ≡ drawn_action (file_of bytes) c.args.action
  file = sym (ap (λ (f : List ℕ). drawn_action f c.args.action) (index_file _ c.in_ok-variables.ensures.result_value refl e))

  ready : Ready bytes c.in_ok-variables.variables c.in_ok-variables.actions c.index_in.new.row
  ready = let i = c.in_ok-variables.ensures in index_ready _ i.result_value refl e i.noted (omega (arith, c.index_in.auto.row))

  missing : c.in_ok-variables.actions ≤ c.args.action → drawn_action c.args.file.now c.args.action ≡ refused 11 0
  missing l = file ∙ action_missing _ ready c.args.action l

  -- so the diagram is one of the file
  module _ (l : c.args.action < c.in_ok-variables.actions) where
    abbrev text : List ℕ
    text = drawing bytes c.in_ok-variables.variables c.index_in.new.row c.args.action (c.args.action + 1)

    is : drawn_action c.args.file.now c.args.action ≡ accepted text
    is = file ∙ action_is _ ready c.args.action l

    few : length text ≤ largest
    few = omega (arith, drawn_action_most c.args.file.now (bytes_each c.args.file.now (λ i. (c.type_inv.file i).fits)) c.args.action is)

pub returns-then-actions-action-clause-result_value : goal.returns-then-actions-action-clause-result_value
returns-then-actions-action-clause-result_value c = (refused_in c.args.out.now (missing (goal.at.returns-then-actions-action-clause-result_value c).In_ok-variables refl c.if-actions-action.true)).0

pub returns-then-actions-action-clause-out_after : goal.returns-then-actions-action-clause-out_after
returns-then-actions-action-clause-out_after c = (refused_in c.args.out.now (missing (goal.at.returns-then-actions-action-clause-out_after c).In_ok-variables refl c.if-actions-action.true)).1

pub draw_in-requires-clause-variables_in_bounds : goal.draw_in-requires-clause-variables_in_bounds
draw_in-requires-clause-variables_in_bounds c = omega (arith, head_fits _ (ready (goal.at.draw_in-requires-clause-variables_in_bounds c).In_ok-variables c.bytes_of-bytes.ensures))

pub draw_in-requires-clause-end_len_bound : goal.draw_in-requires-clause-end_len_bound
draw_in-requires-clause-end_len_bound c = few (goal.at.draw_in-requires-clause-end_len_bound c).In_ok-variables c.bytes_of-bytes.ensures c.if-actions-action.false

pub returns-clause-result_value : goal.returns-clause-result_value
returns-clause-result_value c =
    let at = (goal.at.returns-clause-result_value c).In_ok-variables in
    c.draw_in.ensures.result_value ∙ ap (length_in _) (sym (is at c.bytes_of-bytes.ensures c.if-actions-action.false))

pub returns-clause-out_after : goal.returns-clause-out_after
returns-clause-out_after c =
    let at = (goal.at.returns-clause-out_after c).In_ok-variables in
    c.draw_in.ensures.out_after ∙ ap (written_in _) (sym (is at c.bytes_of-bytes.ensures c.if-actions-action.false))
