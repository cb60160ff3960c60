-- `explain::put_missing` meets its contract case by case.
use mathlib.Core.Path.{sym, ap}
use Rattle.std.proofs.Common.{inl, inr}
use Rattle.text.specs.WriterLaws.{appends_as}
use Rattle.report.specs.Report.{missing_text}
use Rattle.explain.proofs.put_missing.Goals as goal

pub returns-in-State : goal.returns-in-State
returns-in-State c = elim c.in-State.is [
  | inl e ↦ appends_as (ap (λ s. missing_text s c.args.p) (sym e)) c.append.ensures
  | inr e ↦ appends_as (ap (λ s. missing_text s c.args.p) (sym e)) c.append.ensures
]
