-- `scan::read::numbers` meets its contract: one number after the other goes to the next entry, none where something is wrong.
use Prim.Native.Nat.{ℕ, ◌+◌}
use native.Mathlib.Omega.{arith}
use mathlib.Core.List.{List}
use mathlib.Core.Path.{sym, ap, subst, ◌∙◌}
use Rattle.std.specs.Prelude.{Option, Ok, set}
use Rattle.text.specs.Text.{numbers_of, buffer_of}
use Rattle.text.specs.Answers.{token_answer}
use Rattle.text.specs.TokenLaws.{wrong_of, buffer_wrong, Filling, filling_start, filling_next, filling_none, filling_end}
use Rattle.scan.proofs.read.numbers.Goals as goal

pub returns-in_err-count-clause-out_after : goal.returns-in_err-count-clause-out_after
returns-in_err-count-clause-out_after g c =
    let out = g.T.Entry.numbers c.args.out.now in
    buffer_wrong _ _ (wrong_of _ _ _ (sym c.in_err-count.ensures)) ∙ ap (λ (m : ℕ). buffer_of (numbers_of m c.args.text.now) out) c.number-bound.ensures

pub loop-i-init : goal.loop-i-init
loop-i-init g c = filling_start _ _ _ c.in_ok-count.ensures

pub loop-i-preserved : goal.loop-i-preserved
loop-i-preserved g c =
    let l = c.loop-i in
    let long = g.met.T.Entry.long l.out in
    let next = filling_next l.invariant c.in-Some.number c.in-Some.end (omega arith) (c.in_ok-number.ensures.text_value ∙ ap (λ (o : Option (ℕ × ℕ)). token_answer c.number-bound.result c.args.text.now (Ok o)) c.in-Some.is) in
    subst (λ (now : List ℕ). Filling c.number-bound.result c.args.text.now (g.T.Entry.numbers c.args.out.now) now c.in-Some.end (l.i + 1))
    (ap (λ (n : ℕ). set (g.T.Entry.numbers l.out) l.i n) (sym c.entry.ensures) ∙ sym (g.met.T.Entry.sets l.out l.i c.entry.result)) next

pub returns-after-loop-i-clause-out_after : goal.returns-after-loop-i-clause-out_after
returns-after-loop-i-clause-out_after g c =
    let out = g.T.Entry.numbers c.args.out.now in
    let long = g.met.T.Entry.long c.loop-i.out in
    filling_end c.loop-i.invariant c.in_ok-count.ensures (omega arith) ∙ ap (λ (m : ℕ). buffer_of (numbers_of m c.args.text.now) out) c.number-bound.ensures

pub returns-in_default-clause-out_after : goal.returns-in_default-clause-out_after
returns-in_default-clause-out_after g c =
    let out = g.T.Entry.numbers c.args.out.now in
    let long = g.met.T.Entry.long c.loop-i.out in
    filling_none c.loop-i.invariant (omega arith) (c.in_ok-number.ensures.text_value ∙ ap (λ (o : Option (ℕ × ℕ)). token_answer c.number-bound.result c.args.text.now (Ok o)) c.in_default.is)
    ∙ ap (λ (m : ℕ). buffer_of (numbers_of m c.args.text.now) out) c.number-bound.ensures
