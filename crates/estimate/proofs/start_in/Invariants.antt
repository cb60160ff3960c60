use mathlib.Core.Path.{◌≡◌}
use lib.ListN.{length, take}
use Rattle.estimate.specs.Number.{never}
use Rattle.estimate.specs.Facts.{most_facts, HasNumbers, start_number}
use Rattle.estimate.specs.Ranks.{rank_number, HasRanks, started_over}
use Rattle.estimate.proofs.start_in.Given as goal

abbrev pub invariant-loop-v : goal.invariant-loop-v
invariant-loop-v l = record {
  facts : length l.numbers ≡ most_facts;
  count : length l.ranks ≡ length l.initial.ranks;
  numbers : HasNumbers l.initial.numbers (λ v d. never) → HasNumbers l.numbers (start_number (take l.v l.state));
  ranks : HasRanks l.ranks (started_over (rank_number l.initial.ranks) (take l.v l.state));
}
