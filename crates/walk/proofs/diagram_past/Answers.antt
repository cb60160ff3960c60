-- `walk::diagram_past` meets its contract: the incoming weight and the node count stand behind the effect. Assumes nothing.
use mathlib.Core.Path.{sym, ap, ◌∙◌}
use Prim.Native.Nat.{zero-le}
use Rattle.facts.specs.Fields.{word_at}
use Rattle.facts.specs.InPlaceLaws.{past_is}
use Rattle.taskfile.specs.WalkInPlaceLaws.{count_here, count_past_lem, weight_past}
use Rattle.walk.proofs.diagram_past.Goals as goal

pub returns-then-file-effect : goal.returns-then-file-effect
returns-then-file-effect c =
    let a = c.args in
    let past = c.if-file-effect.true in
    (sym (weight_past a.file.now a.effect past), sym (count_past_lem a.file.now a.effect past), zero-le, zero-le)

pub returns : goal.returns
returns c =
    let a = c.args in
    let f = a.file.now in
    let i = past_is f a.effect c.length_at.ensures.0 in
    let d = c.diagram_from.ensures in
    (d.0 ∙ ap (word_at f) i, count_here f a.effect i d.1, d.2, d.3)
