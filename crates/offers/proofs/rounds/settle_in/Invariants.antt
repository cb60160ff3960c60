use mathlib.Core.Path.{◌≡◌}
use lib.ListN.{length}
use Rattle.facts.specs.Lists.{total}
use Rattle.estimate.specs.Ranks.{rank_number}
use Rattle.estimate.specs.InTurn.{Nearing}
use Rattle.offers.proofs.rounds.settle_in.Given as goal

abbrev pub invariant-loop : goal.invariant-loop
invariant-loop g l = record { count : length l.ranks ≡ length l.fn.ranks; nearing : Nearing l.sizes (g.A.Achievers.achievers l.all) l.state (rank_number l.ranks) }

abbrev pub decreases-loop : goal.decreases-loop
decreases-loop g l = total (λ r. r) l.ranks
