-- `trace::entry::put_state` meets its contract: the label, the values and the end of the line, or nothing.
use mathlib.Core.Path.{sym, ap}
use mathlib.Core.Bool.{Bool}
use Rattle.text.specs.WriterLaws.{appends_then, appends_as}
use Rattle.trace.specs.Trace.{state_text}
use Rattle.trace.proofs.entry.put_state.Goals as goal

pub returns-then-states : goal.returns-then-states
returns-then-states c =
    let a = c.args in
    appends_as (ap (λ (t : Bool). state_text t a.label.now a.state.now) (sym c.if-states.true)) (appends_then c.append.ensures (appends_then c.put_values.ensures c.append_byte.ensures))
