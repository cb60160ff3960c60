-- What the edge for a value comes to, by what the code has of a node.
use Rattle.std.specs.Prelude.{ℕ}
use Rattle.estimate.specs.Number.{Number}
use Rattle.estimate.specs.Ranks.{rank_number}
use Rattle.relaxation.specs.EstimateInPlace.{number_for}
use Rattle.price.specs.declared.Choice.{Choice}

-- of the node's variable, by the edge that the node has for it
abbrev pub number_by : Choice → ℕ → Number
number_by c d = number_for c.file.now c.node (rank_number c.ranks.now) c.variable c.least.now d
