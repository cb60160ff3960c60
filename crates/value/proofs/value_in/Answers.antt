-- `value::value_in` meets its contract: no bit stands from 64 on, a bit that does not stand has no value, and the file may end before one. Assumes nothing.
use mathlib.Core.Path.{sym, ◌∙◌}
use Rattle.std.specs.Prelude.{◌+◌}
use Rattle.facts.specs.AnswerLaws.{copied_at}
use native.Mathlib.Omega.{arith}
use Rattle.value.specs.ValueLaws.{lower_most, place_counts}
use Rattle.value.specs.FileLaws.{value_clear, value_beyond, standing}
use Rattle.value.proofs.value_in.Goals as goal

pub returns-then-variable-ge64 : goal.returns-then-variable-ge64
returns-then-variable-ge64 c = sym (value_beyond c.args.file.now c.args.map c.args.at c.args.variable c.ranges.map.fits c.if-variable-ge64.true)

pub returns-then-unset : goal.returns-then-unset
returns-then-unset c = sym (value_clear c.args.file.now c.args.map c.args.at c.args.variable c.if-unset.true)

pub overflow_add-place : goal.overflow_add-place
overflow_add-place c = omega (arith, c.value_place.ensures, place_counts c.args.map c.args.variable, lower_most c.args.map c.args.variable c.ranges.map.fits, c.requires)

pub returns : goal.returns
returns c =
    let e = c.get.ensures.lookup in
    c.copied.ensures
    ∙ copied_at c.args.file.now (c.args.at + c.value_place.result) c.get.result e.0 e.1
    ∙ sym (standing c.args.file.now c.args.map c.args.at c.args.variable (omega (arith, c.if-unset.false)) c.value_place.ensures)
