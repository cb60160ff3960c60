use Rattle.estimate.specs.Ranks.{rank_number}
use Rattle.estimate.specs.PutBackLaws.{PutBefore}
use Rattle.estimate.proofs.put_back.Given as goal

abbrev pub invariant-loop-v : goal.invariant-loop-v
invariant-loop-v l = PutBefore l.sizes l.v 0 l.last (rank_number l.ranks)

abbrev pub invariant-loop-d : goal.invariant-loop-d
invariant-loop-d l = PutBefore l.sizes l.v l.d l.last (rank_number l.ranks)
