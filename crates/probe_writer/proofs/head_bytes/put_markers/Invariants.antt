use Prim.Native.Nat.{◌-◌}
use Rattle.probe_writer.specs.HeadInPlace.{markers_in}
use Rattle.facts.specs.WriteRowLaws.{Going}
use Rattle.probe_writer.proofs.head_bytes.put_markers.Given as goal

abbrev pub invariant-loop-a : goal.invariant-loop-a
invariant-loop-a l = Going (markers_in l.file l.row 0 l.actions) (markers_in l.file l.row l.a (l.actions - l.a)) l.initial.out l.out l.at
