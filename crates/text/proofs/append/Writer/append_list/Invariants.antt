use Rattle.text.specs.Text.{list_text}
use Rattle.text.specs.WriterLaws.{Adding, left_of}
use Rattle.text.proofs.append.Writer.append_list.Given as goal

abbrev pub invariant-loop-i : goal.invariant-loop-i
invariant-loop-i l = Adding (list_text l.list) (left_of l.i l.list) l.initial.self l.self
