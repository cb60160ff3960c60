-- `head::size_end` meets its contract: a domain size is one byte.
use Prim.Native.Nat.{ℕ}
use mathlib.Core.Path.{sym, ap, ◌∙◌}
use Rattle.facts.specs.Read.{accepted}
use Rattle.facts.specs.ReadLaws.{Made, made}
use Rattle.facts.specs.Fields.{next_of, read_count}
use Rattle.facts.specs.FieldLaws.{count_read}
use native.Mathlib.Omega.{arith}
use Rattle.head.proofs.size_end.Goals as goal

pub overflow_add-result : goal.overflow_add-result
overflow_add-result c =
    let size = made (λ (p : ℕ × ℕ). p.0) (read_count c.args.file.now 2 c.args.largest c.args.at) (sym c.in_ok-read_count.ensures) in
    omega (arith, (count_read _ 2 _ _ size.answer).fits)

pub returns : goal.returns
returns c =
    let size = made (λ (p : ℕ × ℕ). p.0) (read_count c.args.file.now 2 c.args.largest c.args.at) (sym c.in_ok-read_count.ensures) in
    sym (ap next_of size.answer ∙ ap accepted (count_read _ 2 _ _ size.answer).next)
