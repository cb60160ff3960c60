-- `narrow::narrow` meets its contract: the map is read, and one that is cut has no facts.
use Prim.Native.Nat.{◌+◌, ◌≤◌}
use mathlib.Core.Path.{sym, ap, subst, ◌∙◌}
use lib.ListN.{length}
use native.Mathlib.Omega.{arith}
use Rattle.facts.specs.Partial.{Partial}
use Rattle.facts.specs.FieldLaws.{number_read}
use Rattle.facts.specs.InPlaceLaws.{standing_read, empty_read}
use Rattle.relaxation.specs.RelaxedTask.{check_meets}
use Rattle.relaxation.specs.Narrowing.{Narrows}
use Rattle.narrow.specs.LoopLaws.{no_facts}
use Rattle.narrow.proofs.narrow.Goals as goal
use Rattle.narrow.proofs.narrow.Goals.{In-Ok}

-- the file has the whole map
fits : (c : goal.In-Ok) → c.args.at + 8 ≤ length c.args.file.now
fits c = (number_read _ 8 _ (sym c.in-Ok.ensures)).fits

pub overflow_add-at : goal.overflow_add-at
overflow_add-at c = omega (arith, fits c)

pub narrow_by-requires-in-Ok : goal.narrow_by-requires-in-Ok
narrow_by-requires-in-Ok c = (fits (goal.at.narrow_by-requires-in-Ok c).In-Ok, c.requires.0, c.requires.1)

pub returns-in-Err-clause-result_value : goal.returns-in-Err-clause-result_value
returns-in-Err-clause-result_value c =
    let cut = empty_read c.args.file.now c.args.at (sym c.in-Err.ensures) in
    c.narrow_by.ensures.result_value ∙ ap (λ (p : Partial). check_meets p c.args.sets.now) (no_facts c.args.file.now 0 ∙ sym cut)

pub returns-in-Err-clause-narrows : goal.returns-in-Err-clause-narrows
returns-in-Err-clause-narrows c =
    let cut = empty_read c.args.file.now c.args.at (sym c.in-Err.ensures) in
    subst (λ (p : Partial). Narrows p c.args.sets.now c.narrow_by.new.copy) (no_facts c.args.file.now 0 ∙ sym cut) c.narrow_by.ensures.narrows

pub returns-in-Ok-clause-result_value : goal.returns-in-Ok-clause-result_value
returns-in-Ok-clause-result_value c =
    let read = standing_read c.args.file.now c.args.at (sym c.in-Ok.ensures) in
    c.narrow_by-in-Ok.ensures.result_value ∙ ap (λ (p : Partial). check_meets p c.args.sets.now) (sym read)

pub returns-in-Ok-clause-narrows : goal.returns-in-Ok-clause-narrows
returns-in-Ok-clause-narrows c =
    let read = standing_read c.args.file.now c.args.at (sym c.in-Ok.ensures) in
    subst (λ (p : Partial). Narrows p c.args.sets.now c.narrow_by-in-Ok.new.copy) (sym read) c.narrow_by-in-Ok.ensures.narrows
