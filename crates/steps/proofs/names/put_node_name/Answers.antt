-- `steps::names::put_node_name` meets its contract: one part straight after the other.
use Rattle.text.specs.WriterLaws.{appends_then}
use Rattle.steps.proofs.names.put_node_name.Goals as goal

pub returns : goal.returns
returns c = appends_then c.put_numbered.ensures (appends_then c.put_numbered-2.ensures (appends_then c.put_numbered-3.ensures c.put_numbered-4.ensures))
