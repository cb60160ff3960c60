-- `walk::diagram_from` meets its contract: the number of nodes stands behind the weight. Assumes nothing.
use mathlib.Core.Path.{sym}
use Prim.Native.Nat.{zero-le}
use Rattle.taskfile.specs.WalkInPlaceLaws.{weight_none, byte_none}
use Rattle.walk.proofs.diagram_from.Goals as goal

pub returns-then-file-incoming : goal.returns-then-file-incoming
returns-then-file-incoming c =
    let a = c.args in
    (sym (weight_none a.file.now a.incoming c.if-file-incoming.true), sym (byte_none a.file.now a.incoming c.if-file-incoming.true), zero-le, zero-le)
