-- `probe_writer::head_bytes::put_init` meets its contract: the task's initial values, then zeros.
use Prim.Native.Nat.{◌+◌, ◌-◌}
use native.Mathlib.Omega.{arith}
use Rattle.facts.specs.WriteLaws.{wrote_then}
use Rattle.probe_writer.specs.HeadLaws.{wrote_init}
use Rattle.probe_writer.proofs.head_bytes.put_init.Goals as goal

pub returns : goal.returns
returns c = wrote_init c.args.file.now c.args.n c.args.actions {own = 1 + c.args.n + c.args.n - (1 + c.args.n)} (omega arith) (wrote_then c.put_bytes-own.ensures c.put_zeros.ensures)
