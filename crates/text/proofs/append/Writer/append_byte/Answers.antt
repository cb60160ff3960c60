-- `Writer::append_byte` meets its contract: the buffer has the byte where there is room, and is what it was where there is none.
use mathlib.Core.Path.{ap, ◌∙◌}
use Rattle.text.specs.declared.append.Writer.{Writer}
use Rattle.text.specs.AppendLaws.{set_full}
use Rattle.text.specs.WriterLaws.{appends_byte}
use Rattle.text.proofs.append.Writer.append_byte.Goals.{then-room, else-room}
use Rattle.text.proofs.append.Writer.append_byte.Goals as goal

pub returns : goal.returns
returns c = elim c.if-room.branch [
  | then-room w ↦ appends_byte (ap (λ (v : Writer). v.out.ghost_name) w.self-is) (ap (λ (v : Writer). v.out.now) w.self-is) (ap (λ (v : Writer). v.at) w.self-is) c.saturating_add-self.ensures
  | else-room w ↦ appends_byte (ap (λ (v : Writer). v.out.ghost_name) w.self-is) (ap (λ (v : Writer). v.out.now) w.self-is ∙ set_full _ _ _ w.if-room.false) (ap (λ (v : Writer). v.at) w.self-is) c.saturating_add-self.ensures
]
