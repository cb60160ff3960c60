-- `line_writer::line::Pairs::put_last` meets its contract: the word and spaces, and the sum in its field.
use Prim.Native.Nat.{ℕ}
use mathlib.Core.Path.{refl, ap, ◌∙◌}
use mathlib.Core.List.{List, ◌++◌}
use lib.ListN.{length, drop, length-append}
use native.Mathlib.Omega.{arith}
use Rattle.text.specs.Text.{decimal}
use Rattle.line_writer.specs.Columns.{ending_at}
use Rattle.line_writer.specs.LineLaws.{sum_digits}
use Rattle.line_writer.proofs.ColumnLaws.{last_wrote}
use Rattle.line_writer.proofs.line.Pairs.put_last.Goals as goal

pub put_number-requires : goal.put_number-requires
put_number-requires c = (
  omega (arith, sum_digits c.args.sum c.requires.0),
  omega (arith, length-append c.copy_from_slice.new.self (drop 25 c.args.out.now), ap length c.copy_from_slice.ensures.after),
)

pub returns : goal.returns
returns c =
    let sum = c.args.sum in
    last_wrote c.args.out.now refl sum c.requires.0 (c.put_number.ensures ∙ ap (ending_at 24 (decimal sum)) (ap (λ (x : List ℕ). x ++ drop 25 c.args.out.now) c.copy_from_slice.ensures.after))
