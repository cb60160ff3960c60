-- `probe_writer::length::edge_count` meets its contract: what is counted and what is left are together all edges.
use Prim.Native.Nat.{ℕ, ◌+◌, ◌<◌}
use mathlib.Core.Path.{refl, ap, ◌∙◌}
use lib.ListN.{get_or}
use native.Mathlib.Omega.{arith}
use Rattle.probe_writer.specs.InPlaceLaws.{edges_left}
use Rattle.probe_writer.proofs.length.edge_count.Goals as goal

pub loop-j-preserved : goal.loop-j-preserved
loop-j-preserved c =
    let a = c.args in
    let l = c.loop-j in
    let t = edges_left a.file.now a.sizes.now a.nodes.now (0 + l.j) l.j a.count {q = 0 + (l.j + 1)} (c.offset_at.ensures ∙ ap (λ (k : ℕ). get_or a.nodes.now k 0) (omega arith)) refl refl (omega arith) c.loop-j-test.true in
    let few : get_or a.sizes.now (get_or a.file.now c.offset_at.result 0) 0 < 256 = (c.type_inv.sizes (get_or a.file.now c.offset_at.result 0)).fits in
    (omega (arith, l.invariant, few), omega (arith, l.invariant, t))
