-- `arguments::words::put_advice` meets its contract: one part straight after the other.
use mathlib.Core.Path.{sym, ap}
use mathlib.Core.Bool.{Bool}
use Rattle.text.specs.WriterLaws.{appends_as, appends_then}
use Rattle.arguments.specs.Arguments.{advice_text}
use Rattle.arguments.proofs.words.put_advice.Goals as goal

pub returns-then-either : goal.returns-then-either
returns-then-either c = appends_as (ap (λ (e : Bool). advice_text e c.args.probe) (sym c.if-either.true)) (appends_then c.append.ensures c.put_kind.ensures)
