-- `facts::Refusal::with` meets its contract: one number after the other. Assumes nothing.
use mathlib.Core.Path.{sym}
use borrow.Author.Tests.{ne_eqb}
use Rattle.facts.specs.RefusalLaws.{with_key, with_none}
use Rattle.facts.proofs.Refusal.with.Goals as goal

pub returns-in-1 : goal.returns-in-1
returns-in-1 c = with_key _ c.in-1.is

pub returns-in-2 : goal.returns-in-2
returns-in-2 c = with_key _ c.in-2.is

pub returns-in-3 : goal.returns-in-3
returns-in-3 c = with_key _ c.in-3.is

pub returns-in-4 : goal.returns-in-4
returns-in-4 c = with_key _ c.in-4.is

pub returns-in-5 : goal.returns-in-5
returns-in-5 c = with_key _ c.in-5.is

pub returns-in-6 : goal.returns-in-6
returns-in-6 c = with_key _ c.in-6.is

pub returns-in-7 : goal.returns-in-7
returns-in-7 c = with_key _ c.in-7.is

pub returns-in-8 : goal.returns-in-8
returns-in-8 c = with_key _ c.in-8.is

pub returns-in-9 : goal.returns-in-9
returns-in-9 c = with_key _ c.in-9.is

pub returns-in-10 : goal.returns-in-10
returns-in-10 c = with_key _ c.in-10.is

pub returns-in-11 : goal.returns-in-11
returns-in-11 c = with_key _ c.in-11.is

pub returns-in-12 : goal.returns-in-12
returns-in-12 c = with_key _ c.in-12.is

pub returns-in-17 : goal.returns-in-17
returns-in-17 c = with_key _ c.in-17.is

pub returns-in_default : goal.returns-in_default
returns-in_default c =
    let a = c.args in
    let r = c.in_default.in_default-own.rest in
    sym (with_none a.number a.place (ne_eqb a.number 1 r.0.0.0.0.0.0.0.0.0.0.0.0.1, (ne_eqb a.number 2 r.0.0.0.0.0.0.0.0.0.0.0.1, (ne_eqb a.number 3 r.0.0.0.0.0.0.0.0.0.0.1, (ne_eqb a.number 4 r.0.0.0.0.0.0.0.0.0.1, (ne_eqb a.number 5 r.0.0.0.0.0.0.0.0.1, (ne_eqb a.number 6 r.0.0.0.0.0.0.0.1, (ne_eqb a.number 7 r.0.0.0.0.0.0.1, (ne_eqb a.number 8 r.0.0.0.0.0.1, (ne_eqb a.number 9 r.0.0.0.0.1, (ne_eqb a.number 10 r.0.0.0.1, (ne_eqb a.number 11 r.0.0.1, (ne_eqb a.number 12 r.0.1, (ne_eqb a.number 17 r.1, tt))))))))))))))
