-- `probe::run` meets its contract: the file, the limit, and then the run.
use Prim.Native.Nat.{◌≤◌}
use mathlib.Core.Path.{sym, ◌∙◌}
use lib.ListN.{length}
use lib.Seq.{length-take-le}
use Rattle.facts.specs.AnswerLaws.{handed}
use Rattle.probefile.specs.IndexLaws.{starts, run_refused, run_long, run_fits}
use native.Mathlib.Omega.{arith}
use Rattle.probe.proofs.run.Goals as goal
use Rattle.probe.proofs.run.Goals.{In_ok-variables}

few : (c : goal.In_ok-variables) → c.in_ok-variables.steps ≤ length c.index.new.offsets
few c = omega (arith, (starts _ (sym c.in_ok-variables.ensures.counted)).steps, c.index.auto.offsets)

pub returns-in_err-variables : goal.returns-in_err-variables
returns-in_err-variables c = handed _ _ c.from_residual.ensures.1 ∙ sym (run_refused _ _ (sym c.in_err-variables.ensures.counted))

pub returns-then-long : goal.returns-then-long
returns-then-long c = sym (run_long _ (sym c.in_ok-variables.ensures.counted) _ c.if-long.true)

pub slice_bounds-offsets-end : goal.slice_bounds-offsets-end
slice_bounds-offsets-end c = few (goal.at.slice_bounds-offsets-end c).In_ok-variables

pub slice_bounds-run_from_start-end : goal.slice_bounds-run_from_start-end
slice_bounds-run_from_start-end c = sym (length-take-le _ _ (few (goal.at.slice_bounds-run_from_start-end c).In_ok-variables))

pub run_from_start-requires : goal.run_from_start-requires
run_from_start-requires c =
    let s = starts _ (sym c.in_ok-variables.ensures.counted) in
    (c.if-long.false, s.variables, s.fits)

pub returns : goal.returns
returns c =
    let known = c.in_ok-variables.ensures in
    c.run_from_start.ensures ∙ sym (run_fits _ (sym known.counted) c.index.new.offsets known.located (few (goal.at.returns c).In_ok-variables) _ c.if-long.false)
