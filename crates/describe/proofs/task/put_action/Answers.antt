-- `describe::task::put_action` meets its contract: its states, and then its cost; the effect stands where the precondition ends.
use mathlib.Core.Path.{ap}
use lib.ListN.{length}
use Rattle.facts.specs.Partial.{Partial, partial_at}
use Rattle.facts.specs.InPlaceLaws.{alike_partial}
use Rattle.text.specs.Append.{bytes}
use Rattle.text.specs.WriterLaws.{appends_then, appends_as}
use Rattle.words.specs.Show.{states_text}
use Rattle.words.specs.ShowLaws.{cost_as}
use Rattle.describe.proofs.task.put_action.Goals as goal

pub returns : goal.returns
returns c =
    let a = c.args in
    appends_then (appends_as (ap (λ (eff : Partial). states_text (bytes "action ") (length a.sizes.now) a.a (partial_at a.file.now a.place) eff) (alike_partial a.file.now c.effect_at-effect.ensures)) c.put_states.ensures)
    (cost_as a.file.now a.sizes.now a.nodes.now c.diagram_at-diagram.ensures.0 c.diagram_at-diagram.ensures.1 c.put_cost.ensures)
