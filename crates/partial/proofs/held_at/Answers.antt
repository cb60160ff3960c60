-- `partial::held_at` meets its contract: the values follow the map, and a cut map says nothing. Assumes nothing.
use mathlib.Core.Path.{◌≡◌, sym, ap, subst, ◌∙◌}
use Rattle.facts.specs.Read.{accepted}
use Rattle.facts.specs.Answers.{answer}
use Rattle.facts.specs.Partial.{Partial, Alike, holds}
use Rattle.facts.specs.PartialLaws.{holds_empty}
use Rattle.facts.specs.Fields.{read_number}
use Rattle.facts.specs.FieldLaws.{number_read}
use Rattle.facts.specs.InPlaceLaws.{standing_read, empty_read, past_here, past_cut}
use Rattle.partial.proofs.Loops.{ends_alike}
use native.Mathlib.Omega.{arith}
use Rattle.partial.proofs.held_at.Goals as goal
use Rattle.partial.proofs.held_at.Goals.{In-Ok}

map_is : (c : goal.In-Ok) → read_number c.args.file.now 8 c.args.at ≡ accepted c.in-Ok.map
map_is c = sym c.read_map.ensures ∙ ap answer c.in-Ok.is

pub overflow_add-at : goal.overflow_add-at
overflow_add-at c = omega (arith, (number_read _ 8 _ (map_is c)).fits)

pub values_hold-requires : goal.values_hold-requires
values_hold-requires c = (number_read _ 8 _ (map_is c)).fits

pub returns-in-Err-clause-result_value : goal.returns-in-Err-clause-result_value
returns-in-Err-clause-result_value c =
    let a = c.args in
    let cut = sym c.read_map.ensures ∙ ap answer c.in-Err.is in
    sym (ap (λ (p : Partial). holds p a.state.now) (empty_read a.file.now a.at cut) ∙ holds_empty a.state.now)

pub returns-in-Err-clause-ends_alike : goal.returns-in-Err-clause-ends_alike
returns-in-Err-clause-ends_alike c =
    let a = c.args in
    let cut = sym c.read_map.ensures ∙ ap answer c.in-Err.is in
    subst (Alike a.file.now c.past_map.result) (sym (past_cut a.file.now a.at cut)) c.past_map.ensures

pub returns-in-Ok-clause-result_value : goal.returns-in-Ok-clause-result_value
returns-in-Ok-clause-result_value c = let a = c.args in c.values_hold.ensures.result_value ∙ sym (ap (λ (p : Partial). holds p a.state.now) (standing_read a.file.now a.at (map_is (goal.at.returns-in-Ok-clause-result_value c).In-Ok)))

pub returns-in-Ok-clause-ends_alike : goal.returns-in-Ok-clause-ends_alike
returns-in-Ok-clause-ends_alike c = let a = c.args in ends_alike a.file.now (past_here a.file.now a.at (map_is (goal.at.returns-in-Ok-clause-ends_alike c).In-Ok)) c.values_hold.result c.values_hold.ensures.ends_at
