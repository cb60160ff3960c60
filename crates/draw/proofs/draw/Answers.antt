-- `draw::draw` meets its contract: the index, and then the diagrams.
use mathlib.Core.Path.{refl, sym, ap, ◌∙◌}
use Rattle.std.proofs.Common.{ℕ, ◌≡◌, ◌≤◌}
use mathlib.Core.List.{List}
use lib.ListN.{length}
use Rattle.facts.specs.AnswerLaws.{handed}
use Rattle.facts.specs.BytesLaws.{bytes_each}
use Rattle.facts.specs.Read.{accepted}
use Rattle.facts.specs.Write.{length_in, written_in}
use Rattle.facts.specs.WriteLaws.{refused_in}
use Rattle.taskfile.specs.Index.{Ready}
use Rattle.taskfile.specs.TaskIndexLaws.{index_file, index_ready, index_refused}
use Rattle.text.specs.Append.{largest}
use Rattle.words.specs.DescribeFile.{drawn}
use Rattle.words.specs.DescribeLaws.{head_fits, drawn_refused, drawn_is}
use Rattle.words.specs.Rows.{drawing}
use Rattle.words.proofs.LengthLaws.{drawn_most}
use native.Mathlib.Omega.{arith}
use Rattle.draw.proofs.draw.Goals.{After-bytes_of-bytes}
use Rattle.draw.proofs.draw.Goals as goal

pub returns-in_err-variables-clause-result_value : goal.returns-in_err-variables-clause-result_value
returns-in_err-variables-clause-result_value c =
    handed _ _ c.from_residual.ensures.1 ∙ (refused_in c.args.out.now (drawn_refused c.args.file.now (index_refused _ (sym c.in_err-variables.ensures.result_value)))).0

pub returns-in_err-variables-clause-out_after : goal.returns-in_err-variables-clause-out_after
returns-in_err-variables-clause-out_after c = (refused_in c.args.out.now (drawn_refused c.args.file.now (index_refused _ (sym c.in_err-variables.ensures.result_value)))).1

-- the row has the index of the file's task in these bytes, so the diagrams are those of the file
module _ (c : goal.After-bytes_of-bytes) where
  abbrev text : List ℕ
  text = drawing c.bytes_of-bytes.result.now c.in_ok-variables.variables c.index_in.new.row 0 c.in_ok-variables.actions

  ready : Ready c.bytes_of-bytes.result.now c.in_ok-variables.variables c.in_ok-variables.actions c.index_in.new.row
  ready = let i = c.in_ok-variables.ensures in index_ready _ i.result_value refl c.bytes_of-bytes.ensures i.noted (omega (arith, c.index_in.auto.row))

  is : drawn c.args.file.now ≡ accepted text
  is = sym (ap drawn (index_file _ c.in_ok-variables.ensures.result_value refl c.bytes_of-bytes.ensures)) ∙ drawn_is _ ready

  few : length text ≤ largest
  few = omega (arith, drawn_most c.args.file.now (bytes_each c.args.file.now (λ i. (c.type_inv.file i).fits)) is)

pub draw_in-requires-clause-variables_in_bounds : goal.draw_in-requires-clause-variables_in_bounds
draw_in-requires-clause-variables_in_bounds c = omega (arith, head_fits _ (ready (goal.at.draw_in-requires-clause-variables_in_bounds c).After-bytes_of-bytes))

pub draw_in-requires-clause-end_len_bound : goal.draw_in-requires-clause-end_len_bound
draw_in-requires-clause-end_len_bound c = few (goal.at.draw_in-requires-clause-end_len_bound c).After-bytes_of-bytes

pub returns-clause-result_value : goal.returns-clause-result_value
returns-clause-result_value c = c.draw_in.ensures.result_value ∙ ap (length_in _) (sym (is (goal.at.returns-clause-result_value c).After-bytes_of-bytes))

pub returns-clause-out_after : goal.returns-clause-out_after
returns-clause-out_after c = c.draw_in.ensures.out_after ∙ ap (written_in _) (sym (is (goal.at.returns-clause-out_after c).After-bytes_of-bytes))
