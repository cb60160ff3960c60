-- `numbering::Numbers::of` meets its contract: past the end of all nodes an action has no edges.
use Rattle.std.proofs.Common.{◌≡◌, ◌∙◌, ap, rules, ℕ, ◌+◌, ◌-◌, List, length, get_or, take, drop, min}
use Rattle.taskfile.specs.Row.{firsts_from}
use Rattle.taskfile.specs.MoveInPlaceLaws.{own_nodes}
use Rattle.numbering.proofs.Numbers.of.Goals as goal

from_on : (xs : List ℕ) (n : ℕ) {k m : ℕ} → m ≡ length xs → k ≡ min n m → take (m - k) (drop k xs) ≡ drop n xs
from_on xs n e h = rw e (own_nodes xs n (h ∙ ap (min n) e))

pub returns-clause-edges : goal.returns-clause-edges
returns-clause-edges c =
    let edges = c.args.self.now.first_edge in
    let long : 64 ≡ length edges = search rules in
    from_on edges (get_or c.args.row.now (firsts_from + c.args.a) 0) long c.offset_within-first.ensures
