-- `Writer::append` meets its contract: all bytes are copied, or as many as there is room for, and all are counted.
use borrow.Rule.Slice.PartMut.{put_mid}
use mathlib.Core.Path.{◌≡◌, refl, sym, ap, ◌∙◌}
use native.Mathlib.Omega.{arith}
use Rattle.std.proofs.Common.{ℕ, ◌+◌, ◌-◌, length}
use Rattle.std.proofs.Math.Seq.{take-length}
use Rattle.text.specs.AppendLaws.{put_copied, put_full}
use Rattle.text.specs.WriterLaws.{appends_put}
use Rattle.text.proofs.append.Writer.append.Goals.{then-whole, else-whole+then-some, else-whole+else-some}
use Rattle.text.proofs.append.Writer.append.Goals as goal

pub returns : goal.returns
returns c =
    let bytes = c.args.bytes.now in
    let self = c.args.self.now in
    let start = c.min-start.result in
    let room = length self.out.now - start in
    elim c.if-whole.branch [
      | then-whole w ↦
          let all = w.copy_from_slice.ensures.after ∙ sym (take-length bytes) in
          appends_put w.self-is refl (put_copied bytes self.out.now w.copy_from_slice.new.self self.at start (length bytes) (omega arith) c.min-start.ensures (omega (arith, w.if-whole.true)) all) (omega arith) c.saturating_add-self.ensures
      | else-whole+then-some w ↦
          let part : room ≡ start + room - start = omega arith in
          appends_put w.self-is refl
          (ap (λ (k : ℕ). put_mid start k self.out.now w.copy_from_slice-then-some.new.self) part
          ∙ put_copied bytes self.out.now w.copy_from_slice-then-some.new.self self.at start room (omega arith) c.min-start.ensures (omega (arith, w.if-whole.false)) w.copy_from_slice-then-some.ensures.after)
          (omega arith)
          c.saturating_add-self.ensures
      | else-whole+else-some w ↦ appends_put w.self-is refl (sym (put_full bytes self.at self.out.now (omega (arith, w.if-some.false)) (omega arith))) (omega arith) c.saturating_add-self.ensures
    ]
