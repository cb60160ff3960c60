-- `trace::entry::put_values` meets its contract: one value after the other.
use Prim.Native.Nat.{◌+◌}
use mathlib.Core.List.{◌++◌}
use lib.ListN.{get_or, drop}
use Rattle.text.specs.Text.{decimal}
use Rattle.text.specs.Append.{bytes}
use Rattle.text.specs.WriterLaws.{adding_more, adding_end}
use Rattle.trace.specs.Trace.{values_text}
use Rattle.trace.specs.TraceLaws.{values_next, values_end}
use Rattle.trace.proofs.entry.put_values.Goals as goal

pub loop-value-preserved : goal.loop-value-preserved
loop-value-preserved c =
    let s = c.args.state.now in
    let v = c.loop-value.value-index in
    adding_more (bytes " " ++ decimal (get_or s v 0)) (values_text (drop (v + 1) s)) c.loop-value.invariant (values_next s v c.loop-value-test.true) c.put_numbered.ensures

pub returns : goal.returns
returns c = adding_end c.loop-value.invariant (values_end c.args.state.now c.loop-value.value-index c.loop-value-test.false)
