-- `probe_estimate::estimate_in` meets its contract: the file is refused, or it is estimated in place.
use Prim.Native.Nat.{◌≤◌}
use mathlib.Core.Path.{sym, ap, ◌∙◌}
use native.Mathlib.Omega.{arith}
use lib.ListN.{length}
use lib.Seq.{length-take-le}
use Rattle.facts.specs.Read.{with_value}
use Rattle.facts.specs.BytesLaws.{bytes_each}
use Rattle.facts.specs.AnswerLaws.{handed}
use Rattle.probefile.specs.IndexLaws.{counted}
use Rattle.estimate.specs.Number.{number}
use Rattle.probe_estimate.specs.EstimateLaws.{estimate_not_read, in_place}
use Rattle.probe_estimate.proofs.estimate_in.Goals as goal
use Rattle.probe_estimate.proofs.estimate_in.Goals.{In_ok-variables}

few : (c : goal.In_ok-variables) → c.in_ok-variables.steps ≤ length c.index_steps.new.offsets
few c = omega (arith, counted _ c.requires.0 c.requires.1 (sym c.in_ok-variables.ensures.counted), c.requires.2, c.index_steps.auto.offsets)

pub returns-in_err-variables : goal.returns-in_err-variables
returns-in_err-variables c = ap (with_value number) (handed _ _ c.from_residual.ensures.1) ∙ sym (estimate_not_read _ _ (sym c.in_err-variables.ensures.counted))

pub slice_bounds-estimate_from-end : goal.slice_bounds-estimate_from-end
slice_bounds-estimate_from-end c = few c

pub slice_bounds-estimate_from-end-2 : goal.slice_bounds-estimate_from-end-2
slice_bounds-estimate_from-end-2 c = sym (length-take-le _ _ (few c))

pub estimate_from-requires : goal.estimate_from-requires
estimate_from-requires c =
    let f = c.args.file.now in
    let known = c.in_ok-variables.ensures in
    in_place f (bytes_each f (λ i. (c.type_inv.file i).fits)) (sym known.counted) c.index_steps.new.offsets known.located (few c)
