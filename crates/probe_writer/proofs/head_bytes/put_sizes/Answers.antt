-- `probe_writer::head_bytes::put_sizes` meets its contract: the number of variables, the task's sizes, the semaphore's, the markers', each straight after the last.
use Prim.Native.Nat.{◌+◌, ◌-◌}
use mathlib.Core.Path.{◌≡◌, ◌∙◌}
use native.Mathlib.Omega.{arith}
use lib.ListN.{length, take, drop, length-drop}
use lib.Seq.{length-take-le}
use Rattle.facts.specs.WriteLaws.{wrote_then}
use Rattle.probe_writer.specs.HeadLaws.{markers_long, wrote_sizes}
use Rattle.probe_writer.proofs.head_bytes.put_sizes.Goals as goal
use Rattle.probe_writer.proofs.head_bytes.put_sizes.Goals.{Start}

-- the length of the task's sizes
own-long : (c : goal.Start) → length (take (1 + c.args.n - 1) (drop 1 c.args.file.now)) ≡ c.args.n
own-long c = length-take-le (1 + c.args.n - 1) (drop 1 c.args.file.now) (rw (length-drop 1 c.args.file.now) (omega (arith, c.requires.n_le_max_variables))) ∙ omega arith

pub overflow_add-result : goal.overflow_add-result
overflow_add-result c = omega (arith, own-long (goal.at.overflow_add-result c).Start, markers_long c.args.file.now c.args.row.now 0 c.args.actions, c.requires.n_le_max_variables, c.put_byte-count.ensures.count, c.put_bytes.ensures.count, c.put_byte.ensures.count, c.put_markers.ensures.count)

pub returns : goal.returns
returns c =
    wrote_sizes c.args.file.now c.args.n c.args.actions c.args.row.now {own = 1 + c.args.n - 1} (omega arith)
    (wrote_then (wrote_then (wrote_then c.put_byte-count.ensures c.put_bytes.ensures) c.put_byte.ensures) c.put_markers.ensures)
