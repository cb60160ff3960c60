-- `price::least_from` meets its contract: the table has the rank of the least from each number above k on.
use Prim.Native.Nat.{◌-◌, ◌<◌}
use mathlib.Core.Path.{refl, ◌∙◌}
use lib.ListN.{length-set}
use native.Mathlib.Omega.{arith}
use Rattle.taskfile.specs.Task.{max_numbers}
use Rattle.estimate.specs.Ranks.{rank_number}
use Rattle.relaxation.specs.EstimateInPlaceLaws.{ranked_start, ranked_next}
use Rattle.relaxation.specs.SumsLaws.{apart_start, apart_set}
use Rattle.price.proofs.least_from.Goals as goal

pub loop-k-init : goal.loop-k-init
loop-k-init c = record { long = refl; filled = ranked_start c.requires (rank_number c.args.ranks.now) max_numbers refl; apart = apart_start max_numbers }

pub loop-k-preserved : goal.loop-k-preserved
loop-k-preserved c =
    let l = c.loop-k in
    let e = c.least_rank.result in
    let least = c.least_rank.ensures in
    let low : l.k - 1 < c.args.count = omega (arith, l.auto.k) in
    record {
      long = length-set l.least _ e ∙ l.invariant.long;
      filled = ranked_next c.requires (rank_number c.args.ranks.now) e low c.offset_at.ensures (omega arith) (record { at = λ t h. l.invariant.filled.at t (omega arith) }) (omega (arith, l.invariant.long, c.requires.few)) least.result_value;
      apart = apart_set l.invariant.apart least.settled (omega (arith, l.invariant.long, c.requires.few));
    }
