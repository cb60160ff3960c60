-- `describe_probe::show` meets its contract: the index, and then the text.
use mathlib.Core.Path.{sym, ap, ◌∙◌}
use Rattle.std.proofs.Common.{rules, ◌≡◌, ◌≤◌}
use Rattle.std.proofs.iter.Serving.{serving}
use lib.ListN.{length, take}
use lib.Seq.{length-take-le}
use Rattle.facts.specs.AnswerLaws.{handed}
use Rattle.facts.specs.BytesLaws.{bytes_each}
use Rattle.facts.specs.Read.{accepted}
use Rattle.facts.specs.Write.{length_in, written_in}
use Rattle.facts.specs.WriteLaws.{refused_in}
use Rattle.probefile.specs.IndexLaws.{starts}
use Rattle.text.specs.Append.{largest}
use Rattle.describe_probe.specs.Show.{shown, showing}
use Rattle.describe_probe.specs.ShowLaws.{shown_refused, head_fits, shown_is, shown_most}
use native.Mathlib.Omega.{arith}
use Rattle.describe_probe.proofs.show.Goals.{In_ok-variables}
use Rattle.describe_probe.proofs.show.Goals as goal

pub returns-in_err-variables-clause-result_value : goal.returns-in_err-variables-clause-result_value
returns-in_err-variables-clause-result_value c = handed _ _ c.from_residual.ensures.1 ∙ (refused_in c.args.out.now (shown_refused c.args.file.now (sym c.in_err-variables.ensures.counted))).0

pub returns-in_err-variables-clause-out_after : goal.returns-in_err-variables-clause-out_after
returns-in_err-variables-clause-out_after c = (refused_in c.args.out.now (shown_refused c.args.file.now (sym c.in_err-variables.ensures.counted))).1

-- the steps stand at the offsets that are noted, so this is the file's text
module _ (c : goal.In_ok-variables) where
  noted : c.in_ok-variables.steps ≤ length c.index.new.offsets
  noted = omega (arith, (starts _ (sym c.in_ok-variables.ensures.counted)).steps)

  text : shown c.args.file.now ≡ accepted (showing c.args.file.now c.in_ok-variables.variables (take c.in_ok-variables.steps c.index.new.offsets))
  text = shown_is _ (sym c.in_ok-variables.ensures.counted) _ c.in_ok-variables.ensures.located noted

  few : length (showing c.args.file.now c.in_ok-variables.variables (take c.in_ok-variables.steps c.index.new.offsets)) ≤ largest
  few = omega (arith, shown_most c.args.file.now (bytes_each c.args.file.now (λ i. (c.type_inv.file i).fits)) text)

pub slice_bounds-offsets-end : goal.slice_bounds-offsets-end
slice_bounds-offsets-end c = noted c

pub slice_bounds-offsets-end-2 : goal.slice_bounds-offsets-end-2
slice_bounds-offsets-end-2 c = sym (length-take-le _ _ (noted (goal.at.slice_bounds-offsets-end-2 c).In_ok-variables))

pub write-requires : goal.write-requires
write-requires c = let fits = head_fits _ (sym c.in_ok-variables.ensures.counted) in grind serving

pub returns-clause-result_value : goal.returns-clause-result_value
returns-clause-result_value c =
    let known = (goal.at.returns-clause-result_value c).In_ok-variables in
    c.write.ensures.answered _ (record { few = few known; each = λ before after p. search rules }) ∙ ap (length_in _) (sym (text known))

pub returns-clause-out_after : goal.returns-clause-out_after
returns-clause-out_after c =
    let known = (goal.at.returns-clause-out_after c).In_ok-variables in
    c.write.ensures.written _ (record { few = few known; each = λ before after p. search rules }) ∙ ap (written_in _) (sym (text known))
