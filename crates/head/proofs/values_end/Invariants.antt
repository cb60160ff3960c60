use mathlib.Core.Path.{◌≡◌}
use lib.ListN.{drop}
use Rattle.facts.specs.Fields.{next_of, each, read_value, read_values}
use Rattle.head.proofs.values_end.Given as goal

abbrev pub invariant-loop-size : goal.invariant-loop-size
invariant-loop-size l = next_of (read_values l.file l.sizes l.from) ≡ next_of (each (read_value l.file) (drop l.size-index l.sizes) l.at)
