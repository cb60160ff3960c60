-- `trace::entry::put_entry` meets its contract: the name, and then by whether the step applies.
use Prim.Native.Nat.{ℕ, ◌+◌}
use mathlib.Core.Path.{refl, sym, ap, ap₂, ◌∙◌}
use mathlib.Core.List.{List}
use Rattle.facts.specs.Partial.{Partial, apply, partial_at, past_partial}
use Rattle.facts.specs.InPlaceLaws.{alike_partial}
use Rattle.text.specs.WriterLaws.{appends_then, appends_as}
use Rattle.steps.specs.Steps.{Named}
use Rattle.steps.specs.Seek.{name_of}
use Rattle.failure.specs.FailureLaws.{advanced_on, advanced_not}
use Rattle.trace.specs.Trace.{went, entry_text}
use Rattle.trace.specs.TraceLaws.{entry_went, entry_stuck}
use Rattle.trace.proofs.entry.put_entry.Goals.{Start}
use Rattle.trace.proofs.entry.put_entry.Goals as goal

-- the step, and what it needs and sets
abbrev named : Start → Named
named s = record { name = name_of s.args.name; cost = s.args.cost }

abbrev pre : Start → Partial
pre s = partial_at s.args.probe.now s.args.place

abbrev eff : Start → Partial
eff s = partial_at s.args.probe.now (past_partial s.args.probe.now s.args.place)

pub returns-in_default-clause-entered : goal.returns-in_default-clause-entered
returns-in_default-clause-entered c =
    let a = c.args in
    let s = (goal.at.returns-in_default-clause-entered c).Start in
    let held = c.in_default.ensures.result_value in
    record {
      text = appends_as (ap (entry_text a.states) (entry_stuck a.k (named s) (pre s) (eff s) a.sum a.state.now (sym held))) (appends_then c.put_step.ensures c.put_stuck.ensures);
      applies = held;
      sums = tt;
      state = sym (advanced_not (pre s) (eff s) a.state.now (sym held));
    }

pub returns-clause-entered : goal.returns-clause-entered
returns-clause-entered c =
    let a = c.args in
    let s = (goal.at.returns-clause-entered c).Start in
    let held = c.in-Some.ensures.result_value in
    let set = alike_partial a.probe.now c.in-Some.ensures.ends_alike in
    let done = c.apply_at.ensures.state_after ∙ ap (λ (p : Partial). apply p a.state.now) set in
    let same = ap₂ (λ (p : Partial) (z : List ℕ). went a.k (named s) (pre s) p (a.sum + a.cost) z) set done in
    record {
      text = appends_as (ap (entry_text a.states) (same ∙ entry_went a.k (named s) (pre s) (eff s) a.sum a.state.now (sym held))) (appends_then c.put_step.ensures c.put_went.ensures);
      applies = held;
      sums = refl;
      state = done ∙ sym (advanced_on (pre s) (eff s) a.state.now (sym held));
    }
