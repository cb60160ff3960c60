-- `walk::diagram_at` meets its contract: behind the precondition stands the effect. Assumes nothing.
use mathlib.Core.Path.{◌∙◌}
use Rattle.taskfile.specs.WalkInPlaceLaws.{weight_behind, count_behind}
use Rattle.walk.proofs.diagram_at.Goals as goal

pub returns : goal.returns
returns c =
    let a = c.args in
    let e = c.effect_at.ensures in
    let d = c.diagram_past.ensures in
    (d.0 ∙ weight_behind a.file.now a.at e, d.1 ∙ count_behind a.file.now a.at e, d.2, d.3)
