-- `line_writer::line::Pairs::new` meets its contract: the text is the numbers below 100 in two digits each.
use mathlib.Core.Path.{refl}
use Rattle.line_writer.specs.Columns.{two_digits}
use Rattle.line_writer.proofs.line.Pairs.new.Goals as goal

pub invariant_of-result : goal.invariant_of-result
unfolding two_digits
invariant_of-result c = record { two = refl }
