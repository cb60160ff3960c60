-- `Writer::append_list` meets its contract: each number, with a space before it if others stand there, and a newline.
use native.Mathlib.Omega.{arith}
use Rattle.text.specs.WriterLaws.{adding_start, list_first, list_next, list_end}
use Rattle.text.proofs.append.Writer.append_list.Goals.{then-more, else-more}
use Rattle.text.proofs.append.Writer.append_list.Goals as goal

pub loop-i-init : goal.loop-i-init
loop-i-init c = adding_start _ _

pub loop-i-preserved : goal.loop-i-preserved
loop-i-preserved c = elim c.if-more.branch [
  | then-more w ↦ list_next _ _ c.loop-i-test.true c.loop-i.invariant w.if-more.true w.self-is w.append_byte.ensures c.append_number.ensures
  | else-more w ↦ list_first _ _ c.loop-i-test.true c.loop-i.invariant (omega arith) w.self-is c.append_number.ensures
]

pub returns : goal.returns
returns c = list_end _ _ (omega arith) c.loop-i.invariant c.append_byte-2.ensures
