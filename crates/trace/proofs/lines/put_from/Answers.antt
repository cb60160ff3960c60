-- `trace::lines::put_from` meets its contract: the initial state, and then the entries.
use Rattle.steps.specs.Seek.{names_in}
use Rattle.trace.specs.TraceLaws.{trace_parts}
use Rattle.trace.proofs.lines.put_from.Goals as goal

pub returns : goal.returns
returns c = let a = c.args in trace_parts (names_in a.file.now a.sizes.now a.actions a.row.now) a.probe.now a.offsets.now a.states a.list.now a.state.now c.put_state.ensures c.put_entries.ensures
