use Rattle.line_writer.specs.EntryLaws.{Lining}
use Rattle.line_writer.proofs.put_lines.Given as goal

abbrev pub invariant-loop-i : goal.invariant-loop-i
invariant-loop-i l = Lining l.list l.costs l.i l.sum l.initial.out l.out l.at
