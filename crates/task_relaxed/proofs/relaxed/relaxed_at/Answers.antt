-- `task_relaxed::relaxed::relaxed_at` meets its contract: the table has the least from each number above k on, and no entry is more than a weight for each node
-- from there on.
use Prim.Native.Nat.{◌+◌, ◌-◌}
use mathlib.Core.Path.{refl, ◌∙◌}
use lib.ListN.{length-set}
use native.Mathlib.Omega.{arith}
use Rattle.taskfile.specs.Task.{max_numbers}
use Rattle.relaxation.specs.RelaxedInPlaceLaws.{greatest_set, set_there, size_there, least_start, least_next, least_end}
use Rattle.task_relaxed.proofs.relaxed.relaxed_at.Goals as goal

pub loop-k-init : goal.loop-k-init
loop-k-init c = record { long = refl; most = omega arith; filled = least_start c.requires max_numbers c.diagram_at-diagram.ensures.1 }

pub least_at-requires : goal.least_at-requires
least_at-requires c =
    let l = c.loop-k in
    let d = c.diagram_at-diagram.ensures in
    let n = c.offset_at.ensures in (
      set_there c.requires (omega (arith, l.auto.k, d.1, c.loop-k-test.true)) n,
      size_there c.requires (omega (arith, l.auto.k, d.1, c.loop-k-test.true)) n,
      omega (arith, l.invariant.most, d.1, c.requires.few),
    )

pub loop-k-preserved : goal.loop-k-preserved
loop-k-preserved c =
    let l = c.loop-k in
    let d = c.diagram_at-diagram.ensures in
    let e = c.least_at.ensures in
    let up = c.loop-k-test.true in
    record {
      long = length-set l.least _ c.least_at.result ∙ l.invariant.long;
      most = omega (arith, greatest_set l.least (l.k - 1 + 1) c.least_at.result, e.1, l.auto.k, l.invariant.most, up);
      filled = least_next c.requires (omega (arith, l.auto.k, d.1, up)) c.offset_at.ensures (omega (arith, up)) (record { at = λ t h. l.invariant.filled.at t (omega arith) }) (omega (arith, l.auto.k, l.invariant.long, d.1, c.requires.few)) e.0;
    }

pub returns : goal.returns
returns c = least_end c.requires c.diagram_at-diagram.ensures.0 (omega (arith, c.loop-k-test.false)) c.loop-k.invariant.filled
