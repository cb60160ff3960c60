use Rattle.taskfile.specs.PartsInPlace.{nodes_in}
use Rattle.numbering.specs.NumberLaws.{Edging}
use Rattle.numbering.proofs.number_edges.Given as goal

abbrev pub invariant-loop-j : goal.invariant-loop-j
invariant-loop-j l = Edging (nodes_in l.file l.sizes l.nodes 0 l.count) l.from l.initial.first_edge l.first_edge l.next l.j
