-- `task_relaxed::relaxed::cost_for` meets its contract: a weight has two bytes, and no entry is greater than the greatest.
use Prim.Native.Nat.{ℕ, ◌+◌}
use mathlib.Core.Path.{◌≡◌, ap, ap₂, ◌∙◌}
use lib.ListN.{get_or}
use Rattle.std.specs.Option.{unwrap_or}
use Rattle.std.proofs.lemmas.Option.{unwrap_or-slice_get}
use Rattle.facts.specs.AnswerLaws.{copied_at}
use Rattle.relaxation.specs.RelaxedInPlaceLaws.{greatest_at}
use native.Mathlib.Omega.{arith}
use Rattle.task_relaxed.proofs.relaxed.cost_for.Goals as goal
use Rattle.task_relaxed.proofs.relaxed.cost_for.Goals.{After-unwrap_or}

-- the entry of the edge's target
entry : (c : goal.After-unwrap_or) → c.unwrap_or.result ≡ get_or c.args.least.now c.edge_for-edge.result.target 0
entry c =
    let target = c.edge_for-edge.result.target in
    let read = c.get.ensures.lookup in
    c.unwrap_or.ensures ∙ ap (λ o. unwrap_or o 0) (c.copied.ensures ∙ copied_at c.args.least.now target c.get.result read.0 read.1) ∙ unwrap_or-slice_get c.args.least.now target 0

pub overflow_add-result : goal.overflow_add-result
overflow_add-result c = omega (arith, c.requires, greatest_at c.args.least.now c.edge_for-edge.result.target, entry (goal.at.overflow_add-result c).After-unwrap_or, c.edge_for-edge.ensures.2)

pub returns : goal.returns
returns c =
    let e = c.edge_for-edge.ensures in
    let least = entry (goal.at.returns c).After-unwrap_or in (
      ap₂ ◌+◌ e.1 (least ∙ ap (λ (t : ℕ). get_or c.args.least.now t 0) e.0),
      omega (arith, greatest_at c.args.least.now c.edge_for-edge.result.target, least, e.2),
    )
