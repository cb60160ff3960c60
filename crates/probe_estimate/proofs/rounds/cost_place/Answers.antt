-- `probe_estimate::rounds::cost_place` meets its contract: two bytes before where the step ends. Assumes nothing.
use native.Mathlib.Omega.{arith}
use Rattle.probe_estimate.proofs.rounds.cost_place.Goals as goal

pub overflow_sub-result-2 : goal.overflow_sub-result-2
overflow_sub-result-2 c = omega (arith, (c.requires.1.last c.args.k (omega (arith, c.requires.0, c.if-k-offsets.false))).ends)
