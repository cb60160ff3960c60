-- `task_dearest::dearest_at` meets its contract: the table has the greatest from each number above k on, and no entry is more than a weight for each node from there on.
use Prim.Native.Nat.{◌+◌, ◌-◌}
use mathlib.Core.Path.{refl, ◌∙◌}
use lib.ListN.{length-set}
use native.Mathlib.Omega.{arith}
use Rattle.taskfile.specs.Task.{max_numbers}
use Rattle.relaxation.specs.RelaxedInPlaceLaws.{greatest_set}
use Rattle.dearest.specs.InPlaceLaws.{tests_there, edges_there, greatest_start, greatest_next, greatest_end}
use Rattle.task_dearest.proofs.dearest_at.Goals as goal

pub loop-k-init : goal.loop-k-init
loop-k-init c = record { long = refl; most = omega arith; filled = greatest_start c.requires.0 max_numbers c.diagram_at-diagram.ensures.1 }

pub greatest_at-requires : goal.greatest_at-requires
greatest_at-requires c =
    let l = c.loop-k in
    let d = c.diagram_at-diagram.ensures in
    let n = c.offset_at.ensures in (
      tests_there c.requires.0 (omega (arith, l.auto.k, d.1, c.loop-k-test.true)) n,
      edges_there c.requires.0 (omega (arith, l.auto.k, d.1, c.loop-k-test.true)) n,
      record { all = l.invariant.long; low = omega (arith, l.invariant.most, d.1, c.requires.0.few) },
    )

pub loop-k-preserved : goal.loop-k-preserved
loop-k-preserved c =
    let l = c.loop-k in
    let d = c.diagram_at-diagram.ensures in
    let e = c.greatest_at.ensures in
    let up = c.loop-k-test.true in
    record {
      long = length-set l.table _ c.greatest_at.result ∙ l.invariant.long;
      most = omega (arith, greatest_set l.table (l.k - 1 + 1) c.greatest_at.result, e.1, l.auto.k, l.invariant.most, up);
      filled = greatest_next c.requires.0 (omega (arith, l.auto.k, d.1, up)) c.offset_at.ensures (omega (arith, up)) (record { at = λ t h. l.invariant.filled.at t (omega arith) }) (omega (arith, l.auto.k, l.invariant.long, d.1, c.requires.0.few)) e.0;
    }

pub returns-clause-value : goal.returns-clause-value
returns-clause-value c = greatest_end c.requires.0 c.diagram_at-diagram.ensures.0 (omega (arith, c.loop-k-test.false)) c.loop-k.invariant.filled
