-- `partial::apply_at` meets its contract: the values follow the map, and a cut map says nothing. Assumes nothing.
use mathlib.Core.Path.{◌≡◌, sym, ap, subst, ◌∙◌}
use Rattle.facts.specs.Read.{accepted}
use Rattle.facts.specs.Answers.{answer}
use Rattle.facts.specs.Partial.{Partial, Alike, equal, apply}
use Rattle.facts.specs.PartialLaws.{apply_empty}
use Rattle.facts.specs.Fields.{read_number}
use Rattle.facts.specs.FieldLaws.{number_read}
use Rattle.facts.specs.InPlaceLaws.{standing_read, empty_read, past_here, past_cut}
use native.Mathlib.Omega.{arith}
use Rattle.partial.proofs.apply_at.Goals as goal
use Rattle.partial.proofs.apply_at.Goals.{In-Ok}

map_is : (c : goal.In-Ok) → read_number c.args.file.now 8 c.args.at ≡ accepted c.in-Ok.map
map_is c = sym c.read_map.ensures ∙ ap answer c.in-Ok.is

pub overflow_add-at : goal.overflow_add-at
overflow_add-at c = omega (arith, (number_read _ 8 _ (map_is c)).fits)

pub values_set-requires : goal.values_set-requires
values_set-requires c = (number_read _ 8 _ (map_is (goal.at.values_set-requires c).In-Ok)).fits

pub returns-in-Err-clause-state_after : goal.returns-in-Err-clause-state_after
returns-in-Err-clause-state_after c =
    let a = c.args in
    let cut = sym c.read_map.ensures ∙ ap answer c.in-Err.is in
    sym (ap (λ (p : Partial). apply p a.state.now) (empty_read a.file.now a.at cut) ∙ apply_empty a.state.now)

pub returns-in-Err-clause-alike : goal.returns-in-Err-clause-alike
returns-in-Err-clause-alike c =
    let a = c.args in
    let cut = sym c.read_map.ensures ∙ ap answer c.in-Err.is in
    subst (Alike a.file.now c.past_map.result) (sym (past_cut a.file.now a.at cut)) c.past_map.ensures

pub returns-in-Ok-clause-state_after : goal.returns-in-Ok-clause-state_after
returns-in-Ok-clause-state_after c =
    let a = c.args in
    let set = c.values_set.ensures in
    set.state_after ∙ sym (ap (λ (p : Partial). apply p a.state.now) (standing_read a.file.now a.at (map_is (goal.at.returns-in-Ok-clause-state_after c).In-Ok)))

pub returns-in-Ok-clause-alike : goal.returns-in-Ok-clause-alike
returns-in-Ok-clause-alike c =
    let a = c.args in
    let set = c.values_set.ensures in
    equal (set.value ∙ sym (past_here a.file.now a.at (map_is (goal.at.returns-in-Ok-clause-alike c).In-Ok)))
