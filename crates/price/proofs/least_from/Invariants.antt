use mathlib.Core.Path.{◌≡◌}
use lib.ListN.{length}
use Rattle.taskfile.specs.Task.{max_numbers}
use Rattle.taskfile.specs.PartsInPlace.{nodes_in}
use Rattle.estimate.specs.Number.{ranked}
use Rattle.estimate.specs.Ranks.{rank_number}
use Rattle.relaxation.specs.Pass.{Filled}
use Rattle.relaxation.specs.EstimatePass.{number_pass}
use Rattle.relaxation.specs.Sums.{Apart}
use Rattle.price.proofs.least_from.Given as goal

abbrev pub invariant-loop-k : goal.invariant-loop-k
invariant-loop-k l = record {
  long : length l.least ≡ max_numbers;
  filled : Filled (number_pass l.sizes (rank_number l.ranks)) ranked (nodes_in l.file l.sizes l.nodes 0 l.count) l.k l.least;
  apart : Apart l.least;
}
