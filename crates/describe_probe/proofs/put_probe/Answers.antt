-- `describe_probe::put_probe` meets its contract: the parts in place, one after the other.
use Rattle.text.specs.WriterLaws.{appends_then, appends_as}
use Rattle.words.specs.DescribeLaws.{heading_then}
use Rattle.describe_probe.specs.Show.{showing}
use Rattle.describe_probe.proofs.put_probe.Goals as goal

pub returns : goal.returns
unfolding showing
returns c = appends_as (heading_then _ _ _) (appends_then c.put_heading.ensures c.put_steps.ensures)
