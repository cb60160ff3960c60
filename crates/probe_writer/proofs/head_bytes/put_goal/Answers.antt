-- `probe_writer::head_bytes::put_goal` meets its contract: the bits of semaphore and markers above the goal's own, and zeros behind its values.
use Prim.Native.Nat.{◌+◌, ◌*◌, ◌≤◌}
use mathlib.Core.Path.{sym, subst}
use native.Mathlib.Omega.{arith}
use lib.ListN.{length}
use Rattle.facts.specs.Partial.{Partial, partial_at, write_partial}
use Rattle.facts.specs.InPlaceLaws.{past_is}
use Rattle.probe_writer.specs.HeadLaws.{goal_is, wrote_goal}
use Rattle.probe_writer.proofs.head_bytes.put_goal.Goals as goal
use Rattle.probe_writer.proofs.head_bytes.put_goal.Goals.{Start}

-- the task's the_goal
abbrev the_goal : goal.Start → Partial
the_goal c = partial_at c.args.file.now (1 + 2 * c.args.n)

pub put_extended-requires-clause-end_value : goal.put_extended-requires-clause-end_value
put_extended-requires-clause-end_value c =
    let past = past_is c.args.file.now (1 + 2 * c.args.n) c.length_at.ensures.0 in
    let bits = c.row_of_bits-bits in
    (past, omega (arith, c.length_at.ensures.0, c.requires.n_le_max_variables.2.fits))

pub put_extended-requires-clause-further_in_bounds : goal.put_extended-requires-clause-further_in_bounds
put_extended-requires-clause-further_in_bounds c =
    let past = past_is c.args.file.now (1 + 2 * c.args.n) c.length_at.ensures.0 in
    let bits = c.row_of_bits-bits in
    subst (λ (q : Partial). length (write_partial q) ≤ length c.args.out.now) (sym (goal_is (the_goal (goal.at.put_extended-requires-clause-further_in_bounds c).Start) c.args.n c.args.actions bits.result c.requires.n_le_max_variables.1 bits.ensures)) c.requires.actions_in_bounds

pub returns : goal.returns
returns c = wrote_goal (the_goal (goal.at.returns c).Start) c.args.n c.args.actions c.row_of_bits-bits.result c.requires.n_le_max_variables.1 c.row_of_bits-bits.ensures c.put_extended.ensures
