-- `task_relaxed::relaxed::check_sets` meets its contract: what is left answers what the whole answers.
use mathlib.Core.Path.{sym, ◌∙◌}
use native.Mathlib.Omega.{arith}
use Rattle.facts.specs.StateLaws.{values_outside}
use Rattle.relaxation.specs.RelaxedTask.{good_set}
use Rattle.relaxation.specs.RelaxedTaskLaws.{set_empty, relaxed_width, relaxed_values}
use Rattle.task_relaxed.proofs.relaxed.check_sets.Goals as goal

pub returns-then-sets-sizes : goal.returns-then-sets-sizes
returns-then-sets-sizes c = sym (relaxed_width _ _ c.if-sets-sizes.true)

pub loop-v-init : goal.loop-v-init
loop-v-init c = (c.if-sets-sizes.false, relaxed_values _ _ c.if-sets-sizes.false)

pub returns-then-sets-v-eq0 : goal.returns-then-sets-v-eq0
returns-then-sets-v-eq0 c = let l = c.loop-v in sym (l.invariant.1 ∙ values_outside 4 good_set _ _ l.v (omega arith) (omega arith) (set_empty _ _ c.if-sets-v-eq0.true))
