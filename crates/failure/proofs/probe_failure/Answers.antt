-- `failure::probe_failure` meets its contract: the file, the limit, and then the run.
use mathlib.Core.Path.{◌≡◌, sym, ap, ◌∙◌}
use Rattle.std.proofs.Common.{◌+◌, ◌*◌, ◌≤◌}
use lib.ListN.{length, take, drop}
use lib.Seq.{length-take-le}
use Rattle.facts.specs.AnswerLaws.{handed}
use Rattle.facts.specs.BytesLaws.{bytes_each}
use Rattle.facts.specs.Write.{length_in, written_in}
use Rattle.facts.specs.WriteLaws.{refused_in}
use Rattle.probefile.specs.IndexLaws.{starts}
use Rattle.text.specs.Append.{bytes as text}
use Rattle.probefile.specs.Probe.{max_list}
use Rattle.failure.specs.Failure.{probe_failure}
use Rattle.failure.specs.InPlace.{failure_in}
use Rattle.failure.specs.FileLaws.{probe_refused, probe_long, probe_fits}
use Rattle.failure.specs.LengthLaws.{probe_failure_most}
use native.Mathlib.Omega.{arith}
use Rattle.failure.proofs.probe_failure.Goals.{In_ok-variables}
use Rattle.failure.proofs.probe_failure.Goals as goal

pub returns-in_err-variables-clause-result_value : goal.returns-in_err-variables-clause-result_value
returns-in_err-variables-clause-result_value c =
    handed _ _ c.from_residual.ensures.1 ∙ (refused_in c.args.out.now (probe_refused c.args.file.now c.args.list.now (sym c.in_err-variables.ensures.counted))).0

pub returns-in_err-variables-clause-out_after : goal.returns-in_err-variables-clause-out_after
returns-in_err-variables-clause-out_after c = (refused_in c.args.out.now (probe_refused c.args.file.now c.args.list.now (sym c.in_err-variables.ensures.counted))).1

pub returns-then-list-gt-MAX_LIST-clause-result_value : goal.returns-then-list-gt-MAX_LIST-clause-result_value
returns-then-list-gt-MAX_LIST-clause-result_value c = (refused_in c.args.out.now (probe_long c.args.file.now c.args.list.now (sym c.in_ok-variables.ensures.counted) c.if-list-gt-MAX_LIST.true)).0

pub returns-then-list-gt-MAX_LIST-clause-out_after : goal.returns-then-list-gt-MAX_LIST-clause-out_after
returns-then-list-gt-MAX_LIST-clause-out_after c = (refused_in c.args.out.now (probe_long c.args.file.now c.args.list.now (sym c.in_ok-variables.ensures.counted) c.if-list-gt-MAX_LIST.true)).1

-- the steps stand at the offsets that are noted, so what fails in place is what fails in the file
module _ (c : In_ok-variables) where
  noted : c.in_ok-variables.steps ≤ length c.index.new.offsets
  noted = omega (arith, (starts _ (sym c.in_ok-variables.ensures.counted)).steps)

  failure : let f = c.args.file.now in let n = c.in_ok-variables.variables in length c.args.list.now ≤ max_list
      → probe_failure f c.args.list.now ≡ failure_in f (text "step ") (take c.in_ok-variables.steps c.index.new.offsets) (1 + 2 * n) c.args.list.now (take n (drop (1 + n) f))
  failure l = probe_fits _ _ (sym c.in_ok-variables.ensures.counted) _ c.in_ok-variables.ensures.located noted l

pub slice_bounds-offsets-end : goal.slice_bounds-offsets-end
slice_bounds-offsets-end c = noted (goal.at.slice_bounds-offsets-end c).In_ok-variables

pub slice_bounds-failure_in-end : goal.slice_bounds-failure_in-end
slice_bounds-failure_in-end c = sym (length-take-le _ _ (noted (goal.at.slice_bounds-failure_in-end c).In_ok-variables))

pub failure_in-requires-clause-variables_le_max_variables : goal.failure_in-requires-clause-variables_le_max_variables
failure_in-requires-clause-variables_le_max_variables c = let s = starts _ (sym c.in_ok-variables.ensures.counted) in (s.variables, s.fits)

pub failure_in-requires-clause-brief : goal.failure_in-requires-clause-brief
failure_in-requires-clause-brief c =
    let is = failure (goal.at.failure_in-requires-clause-brief c).In_ok-variables c.if-list-gt-MAX_LIST.false in
    record { most = λ e. omega (arith, probe_failure_most _ _ (bytes_each c.args.file.now (λ i. (c.type_inv.file i).fits)) (is ∙ e)) }

pub returns-clause-result_value : goal.returns-clause-result_value
returns-clause-result_value c =
    c.failure_in.ensures.result_value ∙ ap (length_in _) (sym (failure (goal.at.returns-clause-result_value c).In_ok-variables c.if-list-gt-MAX_LIST.false))

pub returns-clause-out_after : goal.returns-clause-out_after
returns-clause-out_after c =
    c.failure_in.ensures.out_after ∙ ap (written_in _) (sym (failure (goal.at.returns-clause-out_after c).In_ok-variables c.if-list-gt-MAX_LIST.false))
