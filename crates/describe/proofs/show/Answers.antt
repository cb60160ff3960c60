-- `describe::show` meets its contract: the index, and then the text.
use mathlib.Core.Path.{refl, sym, ap, ◌∙◌}
use Rattle.std.proofs.Common.{◌≡◌, ◌≤◌}
use lib.ListN.{length}
use Rattle.std.proofs.Common.{rules}
use Rattle.std.proofs.iter.Serving.{serving}
use Rattle.facts.specs.AnswerLaws.{handed}
use Rattle.facts.specs.BytesLaws.{bytes_each}
use Rattle.facts.specs.Read.{accepted}
use Rattle.facts.specs.Write.{length_in, written_in}
use Rattle.facts.specs.WriteLaws.{refused_in}
use Rattle.taskfile.specs.Index.{Ready}
use Rattle.taskfile.specs.TaskIndexLaws.{index_file, index_ready, index_refused}
use Rattle.text.specs.Append.{largest}
use Rattle.words.specs.DescribeFile.{shown}
use Rattle.words.specs.DescribeLaws.{shown_refused, shown_is}
use Rattle.words.specs.Rows.{showing}
use Rattle.words.proofs.LengthLaws.{shown_most}
use native.Mathlib.Omega.{arith}
use Rattle.describe.proofs.show.Goals.{After-bytes_of-bytes}
use Rattle.describe.proofs.show.Goals as goal

pub returns-in_err-variables-clause-result_value : goal.returns-in_err-variables-clause-result_value
returns-in_err-variables-clause-result_value c =
    handed _ _ c.from_residual.ensures.1 ∙ (refused_in c.args.out.now (shown_refused c.args.file.now (index_refused _ (sym c.in_err-variables.ensures.result_value)))).0

pub returns-in_err-variables-clause-out_after : goal.returns-in_err-variables-clause-out_after
returns-in_err-variables-clause-out_after c = (refused_in c.args.out.now (shown_refused c.args.file.now (index_refused _ (sym c.in_err-variables.ensures.result_value)))).1

-- the counts that the index answers, of the file's task in these bytes, whose text is the file's
module _ (c : goal.After-bytes_of-bytes) where
  ready : Ready c.bytes_of-bytes.result.now c.in_ok-variables.variables c.in_ok-variables.actions c.index_in.new.row
  ready = let i = c.in_ok-variables.ensures in index_ready _ i.result_value refl c.bytes_of-bytes.ensures i.noted (omega (arith, c.index_in.auto.row))

  text : shown c.args.file.now ≡ accepted (showing c.bytes_of-bytes.result.now c.in_ok-variables.variables c.in_ok-variables.actions c.index_in.new.row)
  text = sym (ap shown (index_file _ c.in_ok-variables.ensures.result_value refl c.bytes_of-bytes.ensures)) ∙ shown_is _ ready

  few : length (showing c.bytes_of-bytes.result.now c.in_ok-variables.variables c.in_ok-variables.actions c.index_in.new.row) ≤ largest
  few = omega (arith, shown_most c.args.file.now (bytes_each c.args.file.now (λ i. (c.type_inv.file i).fits)) text)

pub write-requires : goal.write-requires
write-requires c = let r = ready (goal.at.write-requires c).After-bytes_of-bytes in grind serving

pub returns-clause-result_value : goal.returns-clause-result_value
returns-clause-result_value c =
    let known = (goal.at.returns-clause-result_value c).After-bytes_of-bytes in
    c.write.ensures.answered _ (record { few = few known; each = λ before after p. search rules }) ∙ ap (length_in _) (sym (text known))

pub returns-clause-out_after : goal.returns-clause-out_after
returns-clause-out_after c =
    let known = (goal.at.returns-clause-out_after c).After-bytes_of-bytes in
    c.write.ensures.written _ (record { few = few known; each = λ before after p. search rules }) ∙ ap (written_in _) (sym (text known))
