use Prim.Native.Nat.{◌*◌, ◌≤◌}
use mathlib.Core.Path.{◌≡◌}
use lib.ListN.{length}
use Rattle.steps.specs.Seek.{names_in}
use Rattle.trace.specs.Trace.{entries_text}
use Rattle.trace.specs.TraceLaws.{entries_in, Left}
use Rattle.trace.proofs.lines.put_entries.Given as goal

abbrev pub invariant-loop-i : goal.invariant-loop-i
invariant-loop-i l = let names = names_in l.file l.sizes l.actions l.row in
    (l.sum ≤ 4294967295 * l.i) × (length l.state ≡ length l.initial.state) × Left names l.probe l.offsets l.states l.list (entries_text l.states (entries_in names l.probe l.offsets 0 l.list l.initial.state)) l.initial.out l.out l.i l.sum l.state
