-- `task_relaxed::relaxed::least_at` meets its contract: the best so far and the values that are left are together all values of the set.
use mathlib.Core.Path.{◌∙◌}
use native.Mathlib.Omega.{arith}
use Rattle.relaxation.specs.RelaxedInPlaceLaws.{set_read, size_read, least_in_place, choosing_start, choosing_out, choosing_in, choosing_end}
use Rattle.task_relaxed.proofs.relaxed.least_at.Goals as goal

pub loop-d-init : goal.loop-d-init
loop-d-init c =
    let a = c.args in
    let v = c.byte_at-variable.ensures in
    let n = c.byte_at-size.ensures in
    let set = c.byte_at-rest.ensures in
    choosing_start (omega arith)
    (set_read a.file.now a.sizes.now a.sets.now a.least.now a.node c.requires.0 c.requires.1 v n set)
    (size_read a.file.now a.sizes.now a.sets.now a.least.now a.node c.requires.0 c.requires.1 v n set)

pub loop-d-preserved-then-inside-eq0 : goal.loop-d-preserved-then-inside-eq0
loop-d-preserved-then-inside-eq0 c = choosing_out c.loop-d.invariant (omega arith) (omega arith) c.if-inside-eq0.true

pub loop-d-preserved : goal.loop-d-preserved
loop-d-preserved c =
    let cost = c.cost_for.ensures in
    choosing_in c.loop-d.invariant (omega arith) (omega arith) (omega (arith, c.if-inside-eq0.false)) cost.0 cost.1 c.min-best.ensures

pub returns : goal.returns
returns c =
    let a = c.args in
    let best = choosing_end c.loop-d.invariant (omega arith) (omega (arith, c.requires)) in (
      best.0 ∙ least_in_place a.file.now a.sizes.now a.sets.now a.least.now a.node c.requires.0 c.requires.1 c.byte_at-variable.ensures c.byte_at-size.ensures c.byte_at-rest.ensures,
      best.1,
    )
