-- `draw::dot::came_before` meets its contract: the test of each edge before.
use mathlib.Core.Path.{refl, ◌∙◌}
use native.Mathlib.Omega.{arith}
use Rattle.std.proofs.Common.{rules, tests}
use Rattle.std.proofs.lemmas.Iterator.{YieldsList-from_range}
use Rattle.std.proofs.lemmas.Iterator.Search.{any_from_yields_List}
use Rattle.words.specs.Dot.{alike}
use Rattle.words.specs.DotLaws.{among_first}
use Rattle.words.specs.Rows.{edge_for}
use Rattle.draw.proofs.dot.came_before.Goals as goal

pub returns : goal.returns
returns c =
    let a = c.args in
    any_from_yields_List (λ j. alike (edge_for a.file.now a.node a.d) (edge_for a.file.now a.node j)) _ _ _ c.any.ensures.ran (YieldsList-from_range 0 a.d a.d refl (omega arith)) (λ x b q k. search (rules, tests))
    ∙ among_first a.file.now a.node (edge_for a.file.now a.node a.d) a.d
