use Rattle.std.proofs.Common.{◌≡◌, ◌≤◌, drop}
use Rattle.taskfile.specs.Task.{max_list}
use Rattle.numbering.specs.InPlace.{count_in}
use Rattle.contract.proofs.starts.count_starts.Given as goal

abbrev pub invariant-loop-i : goal.invariant-loop-i
invariant-loop-i l = (l.count ≤ max_list) × (count_in l.action_of l.count l.i (drop l.i l.list) ≡ count_in l.action_of 0 0 l.list)
