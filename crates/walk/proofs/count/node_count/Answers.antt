-- `walk::count::node_count` meets its contract: the count stands behind the two partial states and the incoming weight. Assumes nothing.
use mathlib.Core.Path.{sym}
use mathlib.Core.List.{[]}
use Rattle.taskfile.specs.WalkInPlaceLaws.{count_same, count_none}
use Rattle.facts.specs.InPlaceLaws.{past_is}
use Rattle.walk.proofs.count.node_count.Goals as goal

pub returns-then-file-at : goal.returns-then-file-at
returns-then-file-at c = let a = c.args in sym (count_none a.file.now a.at c.if-file-at.true)

pub returns : goal.returns
returns c =
    let a = c.args in
    let f = a.file.now in
    count_same f a.at [] [] (past_is f a.at c.length_at.ensures.0) (past_is f _ c.length_at-2.ensures.0) c.byte_at.ensures
