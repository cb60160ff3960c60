-- `step_writer::put::put_bytes` meets its contract: a copy of the whole slice.
use Rattle.std.proofs.Common.{refl, ◌++◌, ◌∙◌, ap, drop, length, sym, List, ℕ}
use Rattle.std.proofs.Math.Seq.{take-length}
use Rattle.facts.specs.WriteLaws.{wrote_copy}
use Rattle.step_writer.proofs.put.put_bytes.Goals as goal

pub returns : goal.returns
returns c =
    let a = c.args in
    let e = c.copy_from_slice.ensures.after in
    wrote_copy a.bytes.now a.out.now refl (ap (λ (x : List ℕ). x ++ drop (length a.bytes.now) a.out.now) (e ∙ sym (take-length a.bytes.now)))
