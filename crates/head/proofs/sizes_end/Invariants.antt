use mathlib.Core.Path.{◌≡◌}
use lib.ListN.{drop}
use Rattle.facts.specs.Lists.{up_from}
use Rattle.facts.specs.Fields.{next_of, each, read_count, read_sizes}
use Rattle.head.proofs.sizes_end.Given as goal

abbrev pub invariant-loop : goal.invariant-loop
invariant-loop l = next_of (read_sizes l.file l.largest l.n l.from) ≡ next_of (each (λ v. read_count l.file 2 l.largest) (drop l.counter (up_from 0 l.n)) l.at)
