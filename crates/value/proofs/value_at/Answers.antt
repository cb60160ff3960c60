-- `value::value_at` meets its contract: the map is read, and one that is cut says nothing. Assumes nothing.
use mathlib.Core.Path.{sym, ap, ◌∙◌}
use Rattle.facts.specs.Answers.{answer}
use Rattle.facts.specs.Partial.{Partial}
use Rattle.facts.specs.FieldLaws.{number_read}
use Rattle.facts.specs.InPlaceLaws.{standing_read, empty_read}
use Rattle.value.specs.Value.{value_of}
use Rattle.value.specs.ValueLaws.{value_empty}
use Rattle.value.proofs.value_at.Goals as goal

pub value_in-requires : goal.value_in-requires
value_in-requires c = (number_read _ 8 _ (sym c.read_map.ensures ∙ ap answer c.in-Ok.is)).fits

pub returns-in-Err : goal.returns-in-Err
returns-in-Err c =
    let cut = empty_read c.args.file.now c.args.at (sym c.read_map.ensures ∙ ap answer c.in-Err.is) in
    sym (ap (λ (p : Partial). value_of p c.args.variable) cut ∙ value_empty c.args.variable)

pub returns-in-Ok : goal.returns-in-Ok
returns-in-Ok c =
    let read = standing_read c.args.file.now c.args.at (sym c.read_map.ensures ∙ ap answer c.in-Ok.is) in
    c.value_in.ensures ∙ sym (ap (λ (p : Partial). value_of p c.args.variable) read)
