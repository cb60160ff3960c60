-- `line_writer::line::Pairs::put_line` meets its contract: a line of spaces, and each number in its field.
use Prim.Native.Nat.{ℕ, ◌≤◌}
use mathlib.Core.Path.{refl, ap, ◌∙◌}
use mathlib.Core.List.{List, ◌++◌}
use lib.ListN.{length, drop, length-append}
use native.Mathlib.Omega.{arith}
use Rattle.text.specs.Text.{decimal}
use Rattle.line_writer.specs.Lines.{Entry}
use Rattle.line_writer.specs.Columns.{ending_at}
use Rattle.line_writer.specs.LineLaws.{Digits, digits}
use Rattle.line_writer.proofs.ColumnLaws.{line_wrote}
use Rattle.line_writer.proofs.line.Pairs.put_line.Goals as goal
use Rattle.line_writer.proofs.line.Pairs.put_line.Goals.{Start, After-copy_from_slice}

abbrev entry : goal.Start → Entry
entry c = let a = c.args in record { index = a.index; action = a.action; cost = a.cost; sum = a.sum }

fits : (c : goal.Start) → Digits (entry c)
fits c = digits (entry c) c.requires.0

-- how long the line is with the spaces in it
spaced : (c : goal.After-copy_from_slice) → 25 ≤ length (c.copy_from_slice.new.self ++ drop 25 c.args.out.now)
spaced c = omega (arith, length-append c.copy_from_slice.new.self (drop 25 c.args.out.now), ap length c.copy_from_slice.ensures.after)

pub put_number-requires : goal.put_number-requires
put_number-requires c = (omega (arith, (fits (goal.at.put_number-requires c).Start).index), omega (arith, spaced (goal.at.put_number-requires c).After-copy_from_slice))

pub put_number-requires-2 : goal.put_number-requires-2
put_number-requires-2 c = (omega (arith, (fits (goal.at.put_number-requires-2 c).Start).action), omega (arith, spaced (goal.at.put_number-requires-2 c).After-copy_from_slice, c.put_number.auto.line))

pub put_number-requires-3 : goal.put_number-requires-3
put_number-requires-3 c = (omega (arith, (fits (goal.at.put_number-requires-3 c).Start).cost), omega (arith, spaced (goal.at.put_number-requires-3 c).After-copy_from_slice, c.put_number.auto.line, c.put_number-2.auto.line))

pub put_number-requires-4 : goal.put_number-requires-4
put_number-requires-4 c = (omega (arith, (fits (goal.at.put_number-requires-4 c).Start).sum), omega (arith, spaced (goal.at.put_number-requires-4 c).After-copy_from_slice, c.put_number.auto.line, c.put_number-2.auto.line, c.put_number-3.auto.line))

pub returns : goal.returns
returns c =
    let e = entry (goal.at.returns c).Start in
    let at : ℕ → ℕ → List ℕ → List ℕ = λ end n line. ending_at end (decimal n) line in
    line_wrote c.args.out.now refl e c.requires.0
    (c.put_number-4.ensures
    ∙ ap (at 24 e.sum) (c.put_number-3.ensures ∙ ap (at 14 e.cost) (c.put_number-2.ensures ∙ ap (at 6 e.action) (c.put_number.ensures ∙ ap (at 3 e.index) (ap (λ (x : List ℕ). x ++ drop 25 c.args.out.now) c.copy_from_slice.ensures.after)))))
