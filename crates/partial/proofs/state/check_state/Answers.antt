-- `partial::state::check_state` meets its contract: what is left answers what the whole answers. Assumes nothing.
use mathlib.Core.Path.{sym}
use Rattle.facts.specs.StateLaws.{state_width, state_values}
use Rattle.partial.proofs.state.check_state.Goals as goal

pub returns-then-state-sizes : goal.returns-then-state-sizes
returns-then-state-sizes c = sym (state_width _ _ c.if-state-sizes.true)

pub loop-v-init : goal.loop-v-init
loop-v-init c = (c.if-state-sizes.false, state_values _ _ c.if-state-sizes.false)
