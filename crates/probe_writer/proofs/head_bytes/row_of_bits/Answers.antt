-- `probe_writer::head_bytes::row_of_bits` meets its contract: the bits from n on are those below the end less those below n.
use Prim.Native.Nat.{◌+◌, ◌^◌, ◌≤◌}
use native.Mathlib.Omega.{arith}
use lib.Pow.{pow_mono}
use Rattle.probe_writer.proofs.head_bytes.row_of_bits.Goals as goal
use Rattle.probe_writer.proofs.head_bytes.row_of_bits.Goals.{Start}

less : (c : goal.Start) → 2 ^ c.args.n ≤ 2 ^ (c.args.n + c.args.count)
less c = pow_mono {i = c.args.n} {j = c.args.n + c.args.count} (omega arith)

pub overflow_sub-result : goal.overflow_sub-result
overflow_sub-result c = omega (arith, c.bit.ensures, c.bit-2.ensures, less (goal.at.overflow_sub-result c).Start)

pub returns : goal.returns
returns c = omega (arith, c.bit.ensures, c.bit-2.ensures, less (goal.at.returns c).Start)
