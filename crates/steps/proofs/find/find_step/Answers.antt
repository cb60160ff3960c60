-- `steps::find::find_step` meets its contract: one action after the other, the steps that are passed taken off.
use mathlib.Core.Path.{◌≡◌, sym, ap, ◌∙◌}
use Rattle.taskfile.specs.Task.{Action}
use Rattle.words.specs.RowLaws.{action_as}
use Rattle.steps.specs.Steps.{action_names}
use Rattle.steps.specs.Seek.{seek, sought_answer}
use Rattle.steps.specs.SeekLaws.{part_of, names_start, seeking_found, seeking_on, seeking_past}
use Rattle.steps.proofs.find.find_step.Goals as goal
use Rattle.steps.proofs.find.find_step.Goals.{After-find_in_action}

-- what the action's own search says
own : (c : goal.After-find_in_action) → let x = c.args in seek (part_of x.file.now x.sizes.now x.row.now c.loop-a.a) c.loop-a.left ≡ sought_answer c.find_in_action.result
own c =
    let x = c.args in
    let a = c.loop-a.a in
    sym (c.find_in_action.ensures ∙ ap (λ (y : Action). seek (action_names a y) c.loop-a.left) (action_as x.file.now x.sizes.now x.row.now a c.offset_at.ensures c.own_nodes-own.ensures))

pub loop-a-init : goal.loop-a-init
loop-a-init c = let x = c.args in names_start x.file.now x.sizes.now x.row.now x.count x.k

pub returns-in-Ok : goal.returns-in-Ok
returns-in-Ok c = seeking_found c.loop-a.invariant c.loop-a-test.true (own (goal.at.returns-in-Ok c).After-find_in_action ∙ ap sought_answer c.in-Ok.is)

pub loop-a-preserved : goal.loop-a-preserved
loop-a-preserved c = seeking_on c.loop-a.invariant c.loop-a-test.true (own (goal.at.loop-a-preserved c).After-find_in_action ∙ ap sought_answer c.in-Err.is)

pub returns : goal.returns
returns c = seeking_past c.loop-a.invariant c.loop-a-test.false
