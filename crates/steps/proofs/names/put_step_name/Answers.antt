-- `steps::names::put_step_name` meets its contract: by what the step is.
use mathlib.Core.Path.{sym, ap}
use Rattle.text.specs.WriterLaws.{appends_as}
use Rattle.steps.specs.declared.find.Name.{Name}
use Rattle.steps.specs.Steps.{name_text}
use Rattle.steps.specs.Seek.{name_of}
use Rattle.steps.proofs.names.put_step_name.Goals as goal

pub returns-in-Start : goal.returns-in-Start
returns-in-Start c = appends_as (ap (λ (n : Name). name_text (name_of n)) (sym c.in-Start.is)) c.put_numbered.ensures

pub returns-in-End : goal.returns-in-End
returns-in-End c = appends_as (ap (λ (n : Name). name_text (name_of n)) (sym c.in-End.is)) c.put_numbered-in-End.ensures
