-- `draw::dot::put_drawing` meets its contract: what opens it, the diagrams in place, what closes it.
use Rattle.text.specs.WriterLaws.{appends_then}
use Rattle.words.specs.Rows.{drawing}
use Rattle.draw.proofs.dot.put_drawing.Goals as goal

pub returns : goal.returns
unfolding drawing
returns c = appends_then c.append.ensures (appends_then c.put_diagrams.ensures c.append-2.ensures)
