-- `probefile::step_index::steps_end` meets its contract: what is left answers what the whole answers, and the offsets up to here are noted.
use mathlib.Core.Path.{refl, sym, ◌∙◌}
use lib.ListN.{set, length-set}
use Rattle.facts.specs.Lists.{up_from}
use Rattle.facts.specs.ListLaws.{length_up_from}
use Rattle.facts.specs.AnswerLaws.{handed}
use Rattle.facts.specs.Fields.{next_of}
use Rattle.facts.specs.EachLaws.{each_on, each_stops}
use Rattle.facts.specs.InPlaceLaws.{marks_more}
use Rattle.probefile.specs.ProbeFile.{read_step, read_steps}
use Rattle.probefile.specs.InPlaceLaws.{next_step, steps_more, marked_none}
use native.Mathlib.Omega.{arith}
use Rattle.probefile.proofs.step_index.steps_end.Goals as goal

pub loop-i-init : goal.loop-i-init
unfolding read_steps
loop-i-init c = (refl, refl, refl, λ j l. absurd (omega arith))

pub returns-in_err-at-clause-past : goal.returns-in_err-at-clause-past
returns-in_err-at-clause-past c =
    let l = c.loop-i in
    let a = c.args in
    handed _ _ c.from_residual.ensures.1
    ∙ sym (l.invariant.1 ∙ each_stops (λ r. read_step a.file.now a.sizes.now) (up_from 0 a.count) 0 l.i l.at (omega (arith, length_up_from 0 a.count)) (next_step _ _ _ ∙ sym c.in_err-at.ensures))

pub returns-in_err-at-clause-marked : goal.returns-in_err-at-clause-marked
returns-in_err-at-clause-marked c =
    let l = c.loop-i in
    let a = c.args in
    marked_none a.file.now a.sizes.now a.count a.from (set l.offsets l.i l.at)
    (l.invariant.1 ∙ each_stops (λ r. read_step a.file.now a.sizes.now) (up_from 0 a.count) 0 l.i l.at (omega (arith, length_up_from 0 a.count)) (next_step _ _ _ ∙ sym c.in_err-at.ensures))

pub loop-i-preserved : goal.loop-i-preserved
loop-i-preserved c =
    let l = c.loop-i in
    let a = c.args in
    let step = next_step _ _ _ ∙ sym c.in_ok-at.ensures in (
      length-set l.offsets l.i l.at ∙ l.invariant.0,
      l.invariant.1 ∙ each_on (λ r. read_step a.file.now a.sizes.now) (up_from 0 a.count) 0 l.i l.at (omega (arith, length_up_from 0 a.count)) step,
      steps_more a.file.now a.sizes.now a.from l.i l.invariant.2 step,
      marks_more (λ j. next_of (read_steps a.file.now a.sizes.now j a.from)) l.offsets l.i l.at (omega arith) l.invariant.2 l.invariant.3,
    )
